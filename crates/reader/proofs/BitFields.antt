-- Bits that stand in two neighbouring words, read off those two.
use Rattle.std.proofs.Common.{◌≡◌, ℕ, zero, suc, ◌+◌, ◌-◌, ◌*◌, ◌/◌, ◌%◌, ◌^◌, ◌<◌, ◌≤◌, List, [], ◌∷◌, ◌++◌, length, get_or, take, drop, sym, refl, ap, ◌∙◌, subst, ap₂, le_of_suc-le-suc, not-suc-le-zero, add-zero, add_assoc, mul_assoc, mul_comm, add-mul, pow-suc, mul-zero, zero-add, zero-mul, mul-one, mul-suc, mul-add, arith, length-drop}
use native.Mathlib.Nat.{pow-zero, mul-add-div_right, mul-add-mod_self_right}
use Rattle.std.specs.Int.Digits.{number_from_digits, number_from_digits_after, AllBelowBase}
use Rattle.std.proofs.lemmas.Nat.{pow-add, pow_pos, shr-shr, shr_high}
use Rattle.std.proofs.lemmas.Int.Digits.{number_after_append, number_lt}
use Rattle.std.proofs.ByRecursion.{All-drop}
use Rattle.std.proofs.lemmas.List.{take-append-drop, drop_more, get_or-map}
use Rattle.field.specs.declared.gf1024.Gf1024.{Gf1024}
use Rattle.reader.specs.Bits.{bits_in, bits_at}
use Rattle.checksum.specs.Values.{values}
use Rattle.reader.specs.Reading.{bytes_at}

pub number_after_split : (b n : ℕ) (ys : List ℕ) → number_from_digits_after b n ys ≡ n * b ^ length ys + number_from_digits b ys
number_after_split b n [] = sym (ap (λ m. n * m + 0) (pow-zero b) ∙ ap (λ m. m + 0) (mul-one n) ∙ add-zero n)
number_after_split b n (y ∷ ys) =
    let P = b ^ length ys in
    let first : number_from_digits_after b (n * b + y) ys ≡ (n * b + y) * P + number_from_digits b ys = number_after_split b (n * b + y) ys in
    let after : number_from_digits b (y ∷ ys) ≡ (0 * b + y) * P + number_from_digits b ys = number_after_split b (0 * b + y) ys in
    let apart : (n * b + y) * P ≡ n * b * P + y * P = add-mul (n * b) y P in
    let turned : n * b * P ≡ n * (P * b) = mul_assoc n b P ∙ ap (λ m. n * m) (mul_comm b P) in
    let none : (0 * b + y) * P ≡ y * P = ap (λ m. (m + y) * P) (zero-mul b) ∙ ap (λ m. m * P) (zero-add y) in
    let more : n * b ^ suc (length ys) ≡ n * (P * b) = ap (λ m. n * m) (pow-suc b (length ys)) in
    omega arith

pub number_append : (b : ℕ) (xs ys : List ℕ) → number_from_digits b (xs ++ ys) ≡ number_from_digits b xs * b ^ length ys + number_from_digits b ys
number_append b xs ys = number_after_append b 0 xs ys ∙ number_after_split b (number_from_digits b xs) ys

-- width bits a digit
pub power-of : (width k : ℕ) → (2 ^ width) ^ k ≡ 2 ^ (width * k)
power-of width zero = pow-zero (2 ^ width) ∙ ap (λ m. 2 ^ m) (sym (mul-zero width))
power-of width (suc k) =
    let n : width * suc k ≡ width * k + width = mul-suc width k in
    pow-suc (2 ^ width) k ∙ ap (λ m. m * 2 ^ width) (power-of width k) ∙ sym (pow-add 2 (width * k) width) ∙ ap (λ m. 2 ^ m) (sym n)

module _ (width : ℕ) where
  abbrev base : ℕ
  base = 2 ^ width

  -- two neighbouring digits, with what stands before and after them
  two_digits : (ds : List ℕ) (i : ℕ) → i + 1 < length ds
      → number_from_digits base ds ≡ (number_from_digits base (take i ds) * 2 ^ (width + width) + (get_or ds i 0 * base + get_or ds (i + 1) 0)) * 2 ^ (width * (length ds - (i + 2))) + number_from_digits base (drop (i + 2) ds)
  two_digits ds i h =
      let a = get_or ds i 0 in
      let b = get_or ds (i + 1) 0 in
      let rest = drop (i + 2) ds in
      let A = number_from_digits base (take i ds) in
      let P = base ^ length rest in
      let R = number_from_digits base rest in
      let near : drop i ds ≡ a ∷ b ∷ rest =
      drop_more ds i 0 (omega arith) ∙ ap (λ l. a ∷ l) (drop_more ds (i + 1) 0 h ∙ ap (λ n. b ∷ drop n ds) (omega arith)) in
      let whole : number_from_digits base ds ≡ number_from_digits base (take i ds ++ (a ∷ b ∷ rest)) =
      ap (number_from_digits base) (sym (take-append-drop i ds) ∙ ap (λ l. take i ds ++ l) near) in
      let joined : number_from_digits base (take i ds ++ (a ∷ b ∷ rest)) ≡ A * base ^ suc (suc (length rest)) + number_from_digits base (a ∷ b ∷ rest) =
      number_append base (take i ds) (a ∷ b ∷ rest) in
      let pair : number_from_digits base (a ∷ b ∷ rest) ≡ (a * base + b) * P + R =
      number_after_split base ((0 * base + a) * base + b) rest ∙ ap (λ n. (n * base + b) * P + R) (ap (λ n. n + a) (zero-mul base) ∙ zero-add a) in
      let power : base ^ suc (suc (length rest)) ≡ 2 ^ (width + width) * P =
      pow-suc base (suc (length rest)) ∙ ap (λ m. m * base) (pow-suc base (length rest)) ∙ mul_assoc P base base ∙ mul_comm P (base * base) ∙ ap (λ m. m * P) (sym (pow-add 2 width width)) in
      let high : A * base ^ suc (suc (length rest)) ≡ A * 2 ^ (width + width) * P = ap (λ m. A * m) power ∙ sym (mul_assoc A (2 ^ (width + width)) P) in
      let both : (A * 2 ^ (width + width) + (a * base + b)) * P ≡ A * 2 ^ (width + width) * P + (a * base + b) * P = add-mul (A * 2 ^ (width + width)) (a * base + b) P in
      let size : P ≡ 2 ^ (width * (length ds - (i + 2))) = power-of width (length rest) ∙ ap (λ n. 2 ^ (width * n)) (length-drop (i + 2) ds) in
      whole ∙ joined ∙ ap₂ (λ m n. m + n) high pair
      ∙ sym (add_assoc (A * 2 ^ (width + width) * P) ((a * base + b) * P) R)
      ∙ ap (λ m. m + R) (sym both)
      ∙ ap (λ m. (A * 2 ^ (width + width) + (a * base + b)) * m + R) size

-- the bits of the pair, with more before and after
picked : (A pair R m off count after both : ℕ) → R < 2 ^ m → off + count + after ≡ both
    → ((A * 2 ^ both + pair) * 2 ^ m + R) / 2 ^ (m + after) % 2 ^ count ≡ pair / 2 ^ after % 2 ^ count
picked A pair R m off count after both r e =
    let whole : 2 ^ both ≡ 2 ^ off * 2 ^ count * 2 ^ after =
    sym (ap (λ n. 2 ^ n) e) ∙ pow-add 2 (off + count) after ∙ ap (λ n. n * 2 ^ after) (pow-add 2 off count) in
    let high : A * 2 ^ both ≡ A * (2 ^ off * 2 ^ count) * 2 ^ after =
    ap (λ n. A * n) whole ∙ sym (mul_assoc A (2 ^ off * 2 ^ count) (2 ^ after)) in
    let higher : A * (2 ^ off * 2 ^ count) ≡ A * 2 ^ off * 2 ^ count = sym (mul_assoc A (2 ^ off) (2 ^ count)) in
    ap (λ n. n % 2 ^ count)
    (sym (shr-shr ((A * 2 ^ both + pair) * 2 ^ m + R) m after)
    ∙ ap (λ n. n / 2 ^ after) (shr_high (A * 2 ^ both + pair) m R r ∙ ap (λ n. n + pair) high)
    ∙ mul-add-div_right (pow_pos after) (A * (2 ^ off * 2 ^ count)) pair
    ∙ ap (λ n. n + pair / 2 ^ after) higher)
    ∙ mul-add-mod_self_right (A * 2 ^ off) (2 ^ count) (pair / 2 ^ after)

-- bits that begin `off` bits into digit i, and end in that digit or in the next one
pub bits-of-two : (width : ℕ) (ds : List ℕ) (i off count : ℕ) → AllBelowBase (2 ^ width) ds → i + 1 < length ds → off + count ≤ width + width
    → (get_or ds i 0 * 2 ^ width + get_or ds (i + 1) 0) / 2 ^ (width + width - off - count) % 2 ^ count ≡ bits_in width ds (width * i + off) count
unfolding bits_in
bits-of-two width ds i off count small h k =
    let after = width + width - off - count in
    let n = length ds - (i + 2) in
    let m = width * n in
    let lengths : width * length ds ≡ width * i + width * 2 + m =
    ap (λ l. width * l) (omega arith) ∙ mul-add width (i + 2) n ∙ ap (λ l. l + m) (mul-add width i 2) in
    let two : width * 2 ≡ width + width = omega arith in
    let place : width * length ds - (width * i + off + count) ≡ m + after = omega arith in
    let rest : number_from_digits (2 ^ width) (drop (i + 2) ds) < 2 ^ m =
    subst (λ p. number_from_digits (2 ^ width) (drop (i + 2) ds) < p)
    (power-of width (length (drop (i + 2) ds)) ∙ ap (λ l. 2 ^ (width * l)) (length-drop (i + 2) ds))
    (number_lt (2 ^ width) (drop (i + 2) ds) (All-drop (λ d. d < 2 ^ width) (i + 2) ds small)) in
    sym (ap₂ (λ N p. N / 2 ^ p % 2 ^ count) (two_digits width ds i h) place
    ∙ picked (number_from_digits (2 ^ width) (take i ds)) (get_or ds i 0 * 2 ^ width + get_or ds (i + 1) 0) (number_from_digits (2 ^ width) (drop (i + 2) ds)) m off count after (width + width) rest (omega arith))

-- ---- words as elements
pub value-at : (ws : List Gf1024) (i : ℕ) (w : Gf1024) → i < length ws → w ≡ get_or ws i w → get_or (values ws) i 0 ≡ w.value
value-at ws i w h e = get_or-map (λ a. a.value) ws i w 0 h ∙ ap (λ a. a.value) (sym e)

-- ---- bytes in a row
pub bytes-in-a-row : (ws : List ℕ) (from n : ℕ) (l : List ℕ) → n ≤ length l → ((j : ℕ) → j < n → get_or l j 0 ≡ bits_at ws (from + 8 * j) 8) → take n l ≡ bytes_at ws from n
bytes-in-a-row ws from zero l h each = refl
bytes-in-a-row ws from (suc n) [] h each = absurd (not-suc-le-zero h)
bytes-in-a-row ws from (suc n) (b ∷ l) h each =
    let first : b ≡ bits_at ws from 8 = each 0 (omega arith) ∙ ap (λ p. bits_at ws p 8) (add-zero from) in
    ap₂ ◌∷◌ first
    (bytes-in-a-row ws (from + 8) n l (le_of_suc-le-suc h)
    (λ j k. each (suc j) (omega arith) ∙ ap (λ p. bits_at ws p 8) (omega arith)))
