-- The two words that hold the bits.
use Rattle.std.proofs.Common.{◌≡◌, ◌+◌, ◌-◌, ◌*◌, ◌/◌, ◌%◌, ◌^◌, ◌<◌, length, get_or, sym, ap, ◌∙◌, subst, ap₂, mod-lt, arith}
use Rattle.std.proofs.lemmas.Nat.{one_shl, pow_pos}
use Rattle.std.proofs.lemmas.List.{length-map}
use Rattle.reader.specs.Bits.{bits_at}
use Rattle.checksum.specs.Values.{values}
use Rattle.reader.proofs.BitFields.{bits-of-two, value-at}
use Rattle.checksum.proofs.CheckWords.{small_values}
use Rattle.reader.proofs.bits.bits_at.Goals as goal

pub returns : goal.returns
returns c =
    let words = c.args.words.now in
    let from = c.args.from in
    let count = c.args.count in
    let after = 20 - from % 10 - count in
    let size : length (values words) ≡ length words = length-map words (λ a. a.value) in
    let mask : (1 * 2 ^ count) % 4294967296 ≡ 2 ^ count = one_shl count 32 (omega arith) in
    let high : c.from.result ≡ get_or (values words) (from / 10) 0 =
    c.from.ensures ∙ c.from-high.ensures ∙ sym (value-at words (from / 10) c.index-words-from.result (omega arith) c.index-words-from.is) in
    let low : c.from-2.result ≡ get_or (values words) (from / 10 + 1) 0 =
    c.from-2.ensures ∙ c.from-low.ensures ∙ sym (value-at words (from / 10 + 1) c.index-words-from-2.result (omega arith) c.index-words-from-2.is) in
    record {
      value =
          ap (λ n. (c.from.result * 1024 + c.from-2.result) / 2 ^ after % n) mask
          ∙ ap₂ (λ a b. (a * 1024 + b) / 2 ^ after % 2 ^ count) high low
          ∙ bits-of-two 10 (values words) (from / 10) (from % 10) count (small_values words) (omega arith) c.requires.narrow
          ∙ ap (λ p. bits_at (values words) p count) (omega arith);
      bound = subst (λ n. (c.from.result * 1024 + c.from-2.result) / 2 ^ after % n < 2 ^ count) (sym mask) (mod-lt _ (pow_pos count));
    }
