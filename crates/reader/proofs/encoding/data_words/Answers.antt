-- One word of the value more, and all of them.
use Rattle.std.proofs.Common.{◌≡◌, ◌-◌, ◌++◌, length, take, sym, ap, ◌∙◌, subst, append-nil, arith}
use Rattle.std.specs.Int.Digits.{number_from_digits as number}
use Rattle.std.proofs.lemmas.List.{take_all}
use Rattle.reader.specs.Card.{fields_of}
use Rattle.reader.specs.Words.{Holds}
use Rattle.reader.specs.Writing.{words_for, header_number, value_words}
use Rattle.reader.proofs.WordRoundTrip.{length-words_for, word-pushed}
use Rattle.reader.proofs.encoding.data_words.Goals as goal

pub loop-k-init : goal.loop-k-init
loop-k-init c =
    let n = header_number (fields_of c.args.card.now) in
    let header = words_for 4 n in
    let value = c.bytes-value.result.now in
    let count = c.div_ceil-count.result in
    let none : count - count ≡ 0 = omega arith in
    let h = c.header_words-words.ensures in (
      subst (Holds c.header_words-words.result) (sym (append-nil header) ∙ ap (λ m. header ++ take m (words_for count (number 256 value))) (sym none)) h,
      omega (arith, h.count, length-words_for 4 n),
    )

pub loop-k-preserved : goal.loop-k-preserved
loop-k-preserved c =
    let header = words_for 4 (header_number (fields_of c.args.card.now)) in
    let value = c.bytes-value.result.now in
    let count = c.div_ceil-count.result in
    let k = c.loop-k.k in (
      subst (Holds c.push.new.self) (word-pushed header count (number 256 value) k c.value_word.result.value c.loop-k-test.true c.loop-k.auto.k c.value_word.ensures)
          (c.push.ensures.holds (header ++ take (count - k) (words_for count (number 256 value))) c.loop-k.invariant.0),
      omega (arith, c.push.ensures.counts, c.loop-k.invariant.1),
    )

pub returns-clause-holds : goal.returns-clause-holds
returns-clause-holds c =
    let header = words_for 4 (header_number (fields_of c.args.card.now)) in
    let value = c.bytes-value.result.now in
    let count = c.div_ceil-count.result in
    let words = words_for count (number 256 value) in
    let all : take (count - c.loop-k.k) words ≡ words = take_all (count - c.loop-k.k) words (omega (arith, length-words_for count (number 256 value))) in
    let ceil : count ≡ value_words (length value) = omega (arith, c.div_ceil-count.ensures) in
    subst (Holds c.loop-k.words)
    (ap (λ l. header ++ l) (all ∙ ap (λ m. words_for m (number 256 value)) ceil ∙ ap (λ l. words_for (value_words (length l)) (number 256 l)) c.bytes-value.ensures))
    c.loop-k.invariant.0
