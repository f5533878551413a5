-- Ten bits in two neighbouring bytes.
use Rattle.std.proofs.Common.{◌≡◌, suc, ◌+◌, ◌-◌, ◌*◌, ◌/◌, ◌%◌, ◌^◌, ◌<◌, ◌≤◌, ◌∷◌, length, get_or, sym, ap, ◌∙◌, ap₂, arith}
use Rattle.std.specs.Int.Digits.{number_from_digits, AllBelowBase}
use Rattle.std.proofs.ByRecursion.{All-from_get_or}
use Rattle.std.proofs.lemmas.Option.{MatchOption-at_some}
use Rattle.reader.specs.Bits.{bits_in}
use Rattle.reader.proofs.BitFields.{bits-of-two}
use Rattle.reader.proofs.encoding.value_word.Goals as goal

pub returns : goal.returns
unfolding bits_in
returns c =
    let value = c.args.value.now in
    let after = c.args.after in
    let n = length value in
    let from = 8 * n - 2 - after in
    let pair = c.byte_after_zero-high.result * 256 + c.byte_after_zero-low.result in
    let small : AllBelowBase 256 value = All-from_get_or (λ d. d < 256) value 0 (λ k h. (c.type_inv.value k).fits) in
    let word : c.unwrap.result.value ≡ pair / 2 ^ (6 - from % 8) % 1024 =
    MatchOption-at_some (0 ≤ pair / 2 ^ (6 - from % 8) % 1024 → 1023 < pair / 2 ^ (6 - from % 8) % 1024) (λ i. i.value ≡ pair / 2 ^ (6 - from % 8) % 1024) c.unwrap.result c.unwrap.ensures c.new.ensures in
    let even = c.requires.even in
    let inside = c.requires.inside in
    let off : 16 - from % 8 - 10 ≡ 6 - from % 8 = omega arith in
    let place : 8 * suc n - (8 * (from / 8) + from % 8 + 10) ≡ after = omega arith in
    word
    ∙ ap₂ (λ a b. (a * 256 + b) / 2 ^ (6 - from % 8) % 1024) c.byte_after_zero-high.ensures.value c.byte_after_zero-low.ensures.value
    ∙ ap (λ p. (get_or (0 ∷ value) (from / 8) 0 * 256 + get_or (0 ∷ value) (from / 8 + 1) 0) / 2 ^ p % 1024) (sym off)
    ∙ bits-of-two 8 (0 ∷ value) (from / 8) (from % 8) 10 (omega arith, small) (omega arith) (omega arith)
    ∙ ap (λ p. number_from_digits 256 value / 2 ^ p % 1024) place
