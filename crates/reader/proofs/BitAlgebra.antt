-- Bits next to each other: how they join to longer ones, and what part of longer ones they are.
use Rattle.std.proofs.Common.{◌≡◌, ℕ, zero, suc, ◌+◌, ◌-◌, ◌*◌, ◌/◌, ◌%◌, ◌^◌, ◌<◌, ◌≤◌, List, ◌++◌, length, get_or, take, drop, sym, refl, ap, ◌∙◌, subst, ap₂, append_assoc, not-suc-le-zero, add-zero, add_assoc, mod-lt, mod-eq_of_lt, mul_assoc, add-mul, zero-add, zero-mul, mul-one, mul-add, div-one, arith, length-drop, length-take}
use Rattle.std.specs.Int.Digits.{number_from_digits, number_from_digits_after, AllBelowBase}
use Rattle.std.proofs.lemmas.Nat.{pow_pos, pow-add, shr-shr, mod-pow-add, shr_high, mod_low}
use Rattle.std.proofs.lemmas.Int.Digits.{number_lt}
use Rattle.std.proofs.ByRecursion.{All-take, All-drop}
use Rattle.std.proofs.lemmas.List.{take-append-drop, drop_more}
use Rattle.reader.specs.Bits.{bits_in, bits_at}
use Rattle.reader.specs.Reading.{bytes_at}
use Rattle.reader.proofs.BitFields.{power-of, number_append}

module _ (width : ℕ) (ds : List ℕ) where
  abbrev bits : ℕ → ℕ → ℕ
  bits from count = bits_in width ds from count

  abbrev all : ℕ
  all = width * length ds

  pub bits-lt : (from count : ℕ) → bits from count < 2 ^ count
  unfolding bits_in
  bits-lt from count = mod-lt _ (pow_pos count)

  pub join : (from c d : ℕ) → from + (c + d) ≤ all → bits from (c + d) ≡ bits from c * 2 ^ d + bits (from + c) d
  unfolding bits_in
  join from c d h =
      let N = number_from_digits (2 ^ width) ds in
      let a = all - (from + (c + d)) in
      let up : all - (from + c) ≡ a + d = omega arith in
      let same : all - (from + c + d) ≡ a = omega arith in
      mod-pow-add (N / 2 ^ a) c d
      ∙ ap₂ (λ x y. x % 2 ^ c * 2 ^ d + y % 2 ^ d) (shr-shr N a d ∙ ap (λ p. N / 2 ^ p) (sym up)) (ap (λ p. N / 2 ^ p) (sym same))

  -- q bits that stand p bits into c bits
  pub part : (from c p q r : ℕ) → from + c ≤ all → p + q + r ≡ c → bits (from + p) q ≡ bits from c / 2 ^ r % 2 ^ q
  part from c p q r h e =
      let whole : bits from c ≡ (bits from p * 2 ^ q + bits (from + p) q) * 2 ^ r + bits (from + (p + q)) r =
      ap (bits from) (sym e) ∙ join from (p + q) r (omega arith) ∙ ap (λ x. x * 2 ^ r + bits (from + (p + q)) r) (join from p q (omega arith)) in
      sym (ap (λ x. x / 2 ^ r % 2 ^ q) whole
      ∙ ap (λ x. x % 2 ^ q) (shr_high (bits from p * 2 ^ q + bits (from + p) q) r (bits (from + (p + q)) r) (bits-lt (from + (p + q)) r))
      ∙ mod_low (bits from p) q (bits (from + p) q) (bits-lt (from + p) q))

  -- all the bits
  pub whole_bits : AllBelowBase (2 ^ width) ds → bits 0 all ≡ number_from_digits (2 ^ width) ds
  unfolding bits_in
  whole_bits small =
      let N = number_from_digits (2 ^ width) ds in
      let below : N < 2 ^ all = subst (λ p. N < p) (power-of width (length ds)) (number_lt (2 ^ width) ds small) in
      let none : all - (0 + all) ≡ 0 = omega arith in
      ap (λ p. N / 2 ^ p % 2 ^ all) none ∙ ap (λ x. x % 2 ^ all) (div-one N) ∙ mod-eq_of_lt below

-- whole digits in a row
module _ (width : ℕ) (ds : List ℕ) (small : AllBelowBase (2 ^ width) ds) where
  pub run : (i m : ℕ) → i + m ≤ length ds → bits_in width ds (width * i) (width * m) ≡ number_from_digits (2 ^ width) (take m (drop i ds))
  unfolding bits_in
  run i m h =
      let base = 2 ^ width in
      let A = take i ds in
      let M = take m (drop i ds) in
      let R = drop m (drop i ds) in
      let r = length ds - i - m in
      let sizeM : length M ≡ m = simp (length-take, length-drop) (omega arith) in
      let sizeR : length R ≡ r = simp (length-drop) (omega arith) in
      let powerM : base ^ length M ≡ 2 ^ (width * m) = power-of width (length M) ∙ ap (λ n. 2 ^ (width * n)) sizeM in
      let powerR : base ^ length R ≡ 2 ^ (width * r) = power-of width (length R) ∙ ap (λ n. 2 ^ (width * n)) sizeR in
      let cut : ds ≡ (A ++ M) ++ R =
      sym (take-append-drop i ds) ∙ ap (λ l. A ++ l) (sym (take-append-drop m (drop i ds))) ∙ sym (append_assoc A M R) in
      let whole : number_from_digits base ds ≡ (number_from_digits base A * 2 ^ (width * m) + number_from_digits base M) * 2 ^ (width * r) + number_from_digits base R =
      ap (number_from_digits base) cut ∙ number_append base (A ++ M) R
      ∙ ap₂ (λ x p. x * p + number_from_digits base R) (number_append base A M ∙ ap (λ p. number_from_digits base A * p + number_from_digits base M) powerM) powerR in
      let lowR : number_from_digits base R < 2 ^ (width * r) =
      subst (λ p. number_from_digits base R < p) powerR (number_lt base R (All-drop (λ d. d < base) m (drop i ds) (All-drop (λ d. d < base) i ds small))) in
      let lowM : number_from_digits base M < 2 ^ (width * m) =
      subst (λ p. number_from_digits base M < p) powerM (number_lt base M (All-take (λ d. d < base) m (drop i ds) (All-drop (λ d. d < base) i ds small))) in
      let lengths : width * length ds ≡ width * i + width * m + width * r =
      ap (λ n. width * n) (omega arith) ∙ mul-add width (i + m) r ∙ ap (λ n. n + width * r) (mul-add width i m) in
      let place : width * length ds - (width * i + width * m) ≡ width * r = omega arith in
      ap₂ (λ x p. x / 2 ^ p % 2 ^ (width * m)) whole place
      ∙ ap (λ x. x % 2 ^ (width * m)) (shr_high (number_from_digits base A * 2 ^ (width * m) + number_from_digits base M) (width * r) (number_from_digits base R) lowR)
      ∙ mod_low (number_from_digits base A) (width * m) (number_from_digits base M) lowM

  pub digit : (i : ℕ) → i < length ds → bits_in width ds (width * i) width ≡ get_or ds i 0
  digit i h =
      ap (bits_in width ds (width * i)) (sym (mul-one width)) ∙ run i 1 (omega arith)
      ∙ ap (λ l. number_from_digits (2 ^ width) (take 1 l)) (drop_more ds i 0 h)
      ∙ ap (λ n. n + get_or ds i 0) (zero-mul (2 ^ width)) ∙ zero-add (get_or ds i 0)

-- ---- bytes in words
pub bytes-at : (ws : List ℕ) (from n k : ℕ) → k < n → get_or (bytes_at ws from n) k 0 ≡ bits_at ws (from + 8 * k) 8
bytes-at ws from zero k h = absurd (not-suc-le-zero h)
bytes-at ws from (suc n) zero h = ap (λ p. bits_at ws p 8) (sym (add-zero from))
bytes-at ws from (suc n) (suc k) h = bytes-at ws (from + 8) n k (omega arith) ∙ ap (λ p. bits_at ws p 8) (omega arith)

pub length-bytes : (ws : List ℕ) (from n : ℕ) → length (bytes_at ws from n) ≡ n
length-bytes ws from zero = refl
length-bytes ws from (suc n) = ap suc (length-bytes ws (from + 8) n)

-- the number that bytes write is that of their bits
pub number-bytes : (ws : List ℕ) (from n acc : ℕ) → from + 8 * n ≤ 10 * length ws → number_from_digits_after 256 acc (bytes_at ws from n) ≡ acc * 2 ^ (8 * n) + bits_at ws from (8 * n)
number-bytes ws from zero acc h =
    let none : bits_at ws from 0 < 1 = bits-lt 10 ws from 0 in
    omega (arith, mul-one acc)
number-bytes ws from (suc n) acc h =
    let b = bits_at ws from 8 in
    let rest = bits_at ws (from + 8) (8 * n) in
    let next : number_from_digits_after 256 (acc * 256 + b) (bytes_at ws (from + 8) n) ≡ (acc * 256 + b) * 2 ^ (8 * n) + rest = number-bytes ws (from + 8) n (acc * 256 + b) (omega arith) in
    let power : 2 ^ (8 * suc n) ≡ 256 * 2 ^ (8 * n) = ap (λ m. 2 ^ m) (omega arith) ∙ pow-add 2 8 (8 * n) in
    let joined : bits_at ws from (8 * suc n) ≡ b * 2 ^ (8 * n) + rest = ap (bits_at ws from) (omega arith) ∙ join 10 ws from 8 (8 * n) (omega arith) in
    next ∙ ap (λ x. x + rest) (add-mul (acc * 256) b (2 ^ (8 * n))) ∙ add_assoc (acc * 256 * 2 ^ (8 * n)) (b * 2 ^ (8 * n)) rest
    ∙ ap₂ (λ x y. x + y) (mul_assoc acc 256 (2 ^ (8 * n)) ∙ ap (λ x. acc * x) (sym power)) (sym joined)
