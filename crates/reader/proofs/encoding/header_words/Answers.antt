-- One word more, and all four.
use Rattle.std.proofs.Common.{◌≡◌, ℕ, zero, suc, ◌-◌, ◌*◌, ◌/◌, ◌%◌, ◌^◌, ◌<◌, [], ◌∷◌, ◌++◌, get_or, take, refl, sym, ap, ◌∙◌, subst, arith}
use Rattle.std.proofs.lemmas.List.{take_all, take_more}
use Rattle.reader.specs.Words.{Holds}
use Rattle.reader.specs.Writing.{words_for}
use Rattle.reader.proofs.WordRoundTrip.{length-words_for, words_for-at}
use Rattle.reader.proofs.encoding.header_words.Goals as goal

-- how many bits come after each of four words
places : (i : ℕ) → i < 4 → get_or (30 ∷ 20 ∷ 10 ∷ 0 ∷ []) i 0 ≡ 10 * (4 - 1 - i)
places zero h = refl
places (suc zero) h = refl
places (suc (suc zero)) h = refl
places (suc (suc (suc zero))) h = refl
places (suc (suc (suc (suc i)))) h = omega arith

pub loop-after-preserved : goal.loop-after-preserved
loop-after-preserved c =
    let n = c.header_number-number.result in
    let i = c.loop-after.after-index in
    let words = words_for 4 n in
    let is : c.ten_bits.result.value ≡ get_or words i 0 =
    c.ten_bits.ensures ∙ ap (λ m. n / 2 ^ m % 1024) (places i (omega arith)) ∙ sym (words_for-at 4 n i (omega arith)) in (
      subst (Holds c.push.new.self) (ap (λ x. take i words ++ (x ∷ [])) is ∙ sym (take_more words i 0 (omega (arith, length-words_for 4 n))))
          (c.push.ensures.holds (take i words) c.loop-after.invariant.0),
      omega (arith, c.push.ensures.counts, c.loop-after.invariant.1),
    )

pub returns : goal.returns
returns c =
    let n = c.header_number-number.result in
    subst (Holds c.loop-after.words)
    (take_all c.loop-after.after-index (words_for 4 n) (omega (arith, length-words_for 4 n)) ∙ ap (words_for 4) c.header_number-number.ensures.value)
    c.loop-after.invariant.0
