-- A faulty line, one word more, and the end of the lines.
use Rattle.std.proofs.Common.{◌≡◌, ℕ, suc, ◌+◌, ◌-◌, ◌<◌, ◌≤◌, List, length, take, drop, set, Some, None, Ok, Option, sym, ap, ◌∙◌, arith}
use Rattle.std.proofs.lemmas.List.{take_rest, take_all, length-set, length-drop, take_more_set}
use Rattle.std.proofs.lemmas.Result.{err_from_is_err_and}
use Rattle.std.specs.Option.{ok_or}
use Rattle.std.specs.Result.{result_ok}
use Rattle.refusal.specs.declared.Refusal.TheVariants.{FaultyWordFile}
use Rattle.lexicon.specs.WordFile.{next_word, file_words, words_from}
use Rattle.lexicon.specs.WordFileLines.{fits}
use Rattle.lexicon.proofs.WordFileReading.{with_front, faulty, one_more, too_long, whole}
use Rattle.lexicon.specs.WordFileWords.{accepted}
use Rattle.lexicon.proofs.word_file.WordFile.new.Goals as goal

pub returns-in_err-word : goal.returns-in_err-word
returns-in_err-word c =
    let file = c.args.file.now in
    let at = c.loop-word in
    let none : c.next_word.result ≡ None = c.ok_or.ensures.ok_part ∙ ap result_ok c.in_err-word.was in
    let line : next_word at.previous (drop at.offset file) ≡ None = sym (c.next_word.ensures ∙ ap (next_word at.previous) (take_rest file at.offset)) ∙ none in
    let refused = sym c.in_err-word.was ∙ c.ok_or.ensures.value ∙ ap (λ o. ok_or o (FaultyWordFile at.offset)) none in
    let at_line : c.in_err-word.field-0.0 ≡ FaultyWordFile at.offset = cc in
    let p = err_from_is_err_and c.from_residual.result c.from_residual.ensures.1 in
    rw (p.1, p.2, at_line)
    (sym (faulty (take at.word-index at.word-items) at.previous at.offset file (1024 - at.word-index) (1024 - (at.word-index + 1)) (omega arith) line)
    ∙ at.invariant.so_far)

next : (words : List (List ℕ)) (i : ℕ) (previous : Option (List ℕ)) (offset : ℕ) (file word : List ℕ) → length words ≡ 1024 → i < 1024 → next_word previous (drop offset file) ≡ Some word
    → with_front (take i words) (words_from (1024 - i) previous offset (drop offset file)) ≡ file_words file
    → (offset + (length word + 1) ≤ length file)
    × (with_front (take (i + 1) (set words i word)) (words_from (1024 - (i + 1)) (Some word) (offset + (length word + 1)) (drop (offset + (length word + 1)) file)) ≡ file_words file)
next words i previous offset file word size h some so_far =
    let room : length (drop offset file) ≡ length file - offset = length-drop offset file in
    let fit : length word < length (drop offset file) = fits previous (drop offset file) word some in
    let left : 1024 - i ≡ suc (1024 - (i + 1)) = omega arith in (
      omega arith,
      ap (λ f. with_front f (words_from (1024 - (i + 1)) (Some word) (offset + (length word + 1)) (drop (offset + (length word + 1)) file))) (take_more_set words i word (omega arith))
          ∙ sym (one_more (take i words) previous offset file (1024 - i) (1024 - (i + 1)) word left some) ∙ so_far,
    )

pub loop-word-preserved : goal.loop-word-preserved
loop-word-preserved c =
    let file = c.args.file.now in
    let at = c.loop-word in
    let some : next_word at.previous (drop at.offset file) ≡ Some c.in_ok-word.field-0 =
    sym (c.next_word.ensures ∙ ap (next_word at.previous) (take_rest file at.offset)) ∙ c.ok_or.ensures.ok_part ∙ ap result_ok c.in_ok-word.was in
    let more = next at.word-items at.word-index at.previous at.offset file c.in_ok-word.field-0 at.invariant.size c.loop-word-test.true some at.invariant.so_far in
    rw c.bytes.ensures.bytes (record { size = length-set at.word-items at.word-index _ ∙ at.invariant.size; within = more.0; so_far = more.1 })

pub returns-then-offset-file : goal.returns-then-offset-file
returns-then-offset-file c =
    let at = c.loop-word in
    sym (too_long (take at.word-index at.word-items) at.previous at.offset c.args.file.now (1024 - at.word-index) (omega arith) c.if-offset-file.true)
    ∙ at.invariant.so_far

all_words : (words : List (List ℕ)) (i : ℕ) (previous : Option (List ℕ)) (offset : ℕ) (file : List ℕ) → length words ≡ 1024 → 1024 ≤ i → length file ≤ offset
    → with_front (take i words) (words_from (1024 - i) previous offset (drop offset file)) ≡ file_words file → Ok words ≡ file_words file
all_words words i previous offset file size read end so_far =
    ap Ok (sym (take_all i words (omega arith))) ∙ sym (whole (take i words) previous offset file (1024 - i) (omega arith) end) ∙ so_far

pub invariant_of-result : goal.invariant_of-result
invariant_of-result c =
    let at = c.loop-word in
    let words = all_words at.word-items at.word-index at.previous at.offset c.args.file.now at.invariant.size c.loop-word-test.false c.if-offset-file.false at.invariant.so_far in
    record { count = at.invariant.size; sorted = (accepted c.args.file.now at.word-items (sym words)).1 }

pub returns : goal.returns
returns c =
    let at = c.loop-word in
    all_words at.word-items at.word-index at.previous at.offset c.args.file.now at.invariant.size c.loop-word-test.false c.if-offset-file.false at.invariant.so_far
