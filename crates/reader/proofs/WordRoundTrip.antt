-- A card's words say its fields, and no other words do.
use Rattle.std.proofs.Common.{◌≡◌, ℕ, zero, suc, ◌+◌, ◌-◌, ◌*◌, ◌/◌, ◌%◌, ◌^◌, ◌<◌, ◌≤◌, Bool, true, false, cond, eqb, List, [], ◌∷◌, ◌++◌, length, get_or, take, drop, sym, refl, ap, ◌∙◌, subst, ap₂, append_assoc, le_of_eq, lt_of_lt_of_le, not-suc-le-zero, mod-lt, mod-eq_of_lt, zero-add, div-one, arith, lit<, length-append, pow_mono}
use native.Mathlib.Nat.{mod-one, div-eq_of_lt, suc_inj}
use lib.Arith.{digits_div, digits_mod}
use Rattle.std.specs.Int.Digits.{number_from_digits, number_from_digits_after, AllBelowBase}
use Rattle.std.proofs.lemmas.Nat.{pow_pos, mod-pow-add, shr-shr, shr_high, mod_low}
use Rattle.std.proofs.lemmas.Int.Digits.{number_lt}
use Rattle.std.proofs.ByRecursion.{All-append}
use Rattle.std.proofs.lemmas.List.{take_at, take_more, drop_at, ext_get_or}
use Rattle.std.proofs.lemmas.Bool.{eq-eqb, ne_eqb, and_from, le-leb}
use Rattle.reader.specs.Bits.{bits_in, bits_at}
use Rattle.reader.specs.Card.{Fields}
use Rattle.reader.specs.Reading.{fields_in, bytes_at, value_bits, padding_bits, value_length, count_fits}
use Rattle.reader.specs.Writing.{Lawful, words_for, header_number, value_words}
use Rattle.reader.proofs.BitFields.{power-of, number_after_split}
use Rattle.reader.proofs.BitAlgebra as B
use Rattle.reader.proofs.CheckedFields.{same_fields}

-- ---- the words of a number
pub length-words_for : (k n : ℕ) → length (words_for k n) ≡ k
unfolding words_for
length-words_for zero n = refl
length-words_for (suc k) n = ap suc (length-words_for k n)

pub small_words_for : (k n : ℕ) → AllBelowBase 1024 (words_for k n)
unfolding words_for
small_words_for zero n = tt
small_words_for (suc k) n = (mod-lt _ (lit< tt), small_words_for k n)

pub number-words_for : (k n : ℕ) → number_from_digits 1024 (words_for k n) ≡ n % 2 ^ (10 * k)
unfolding words_for
number-words_for zero n = sym (mod-one n)
number-words_for (suc k) n =
    let d = n / 2 ^ (10 * k) % 1024 in
    let size : 1024 ^ length (words_for k n) ≡ 2 ^ (10 * k) = power-of 10 (length (words_for k n)) ∙ ap (λ m. 2 ^ (10 * m)) (length-words_for k n) in
    number_after_split 1024 (0 + d) (words_for k n)
    ∙ ap₂ (λ x y. x + y) (ap₂ (λ x y. x * y) (zero-add d) size) (number-words_for k n)
    ∙ sym (ap (λ m. n % 2 ^ m) (omega arith) ∙ mod-pow-add n 10 (10 * k))

pub words_for-at : (k n j : ℕ) → j < k → get_or (words_for k n) j 0 ≡ n / 2 ^ (10 * (k - 1 - j)) % 1024
unfolding words_for
words_for-at zero n j h = absurd (not-suc-le-zero h)
words_for-at (suc k) n zero h = ap (λ m. n / 2 ^ (10 * m) % 1024) (omega arith)
words_for-at (suc k) n (suc j) h = words_for-at k n j (omega arith) ∙ ap (λ m. n / 2 ^ (10 * m) % 1024) (omega arith)

-- one word more of a number's words, of which those for k tens of bits are to come
pub word-pushed : (front : List ℕ) (count n k w : ℕ) → 0 < k → k ≤ count → w ≡ n / 2 ^ (10 * (k - 1)) % 1024
    → (front ++ take (count - k) (words_for count n)) ++ (w ∷ []) ≡ front ++ take (count - (k - 1)) (words_for count n)
word-pushed front count n k w h l e =
    let j = count - k in
    let words = words_for count n in
    let size = length-words_for count n in
    let place : count - 1 - j ≡ k - 1 = omega arith in
    let more : count - (k - 1) ≡ j + 1 = omega arith in
    let is : w ≡ get_or words j 0 = e ∙ ap (λ m. n / 2 ^ (10 * m) % 1024) (sym place) ∙ sym (words_for-at count n j (omega arith)) in
    append_assoc front (take j words) (w ∷ [])
    ∙ ap (λ l. front ++ l) (ap (λ x. take j words ++ (x ∷ [])) is ∙ sym (take_more words j 0 (omega arith)) ∙ ap (λ m. take m words) (sym more))

-- equally many digits that write the same number are the same
pub same_digits : (b m n : ℕ) (xs ys : List ℕ) → AllBelowBase b xs → AllBelowBase b ys → length xs ≡ length ys → number_from_digits_after b m xs ≡ number_from_digits_after b n ys → (m ≡ n) × (xs ≡ ys)
same_digits b m n [] [] hx hy l e = (e, refl)
same_digits b m n [] (y ∷ ys) hx hy l e = absurd (not-suc-le-zero (le_of_eq (sym l)))
same_digits b m n (x ∷ xs) [] hx hy l e = absurd (not-suc-le-zero (le_of_eq l))
same_digits b m n (x ∷ xs) (y ∷ ys) hx hy l e =
    let r = same_digits b (m * b + x) (n * b + y) xs ys hx.1 hy.1 (suc_inj l) e in (
      sym (digits_div m hx.0) ∙ ap (λ k. k / b) r.0 ∙ digits_div n hy.0,
      ap₂ ◌∷◌ (sym (digits_mod m hx.0) ∙ ap (λ k. k % b) r.0 ∙ digits_mod n hy.0) r.1,
    )

pub words_for-number : (k n : ℕ) (ds : List ℕ) → AllBelowBase 1024 ds → length ds ≡ k → number_from_digits 1024 ds ≡ n → words_for k n ≡ ds
words_for-number k n ds small size is =
    let below : n < 2 ^ (10 * k) = subst (λ m. m < 2 ^ (10 * k)) is
    (subst (λ p. number_from_digits 1024 ds < p) (power-of 10 (length ds) ∙ ap (λ m. 2 ^ (10 * m)) size) (number_lt 1024 ds small)) in
    (same_digits 1024 0 0 (words_for k n) ds (small_words_for k n) small (length-words_for k n ∙ sym size)
    (number-words_for k n ∙ mod-eq_of_lt below ∙ sym is)).1

-- ---- fields next to each other
-- without the last b bits
peel : (a y b r : ℕ) → y < 2 ^ b → (a * 2 ^ b + y) / 2 ^ (b + r) ≡ a / 2 ^ r
peel a y b r h = sym (shr-shr (a * 2 ^ b + y) b r) ∙ ap (λ x. x / 2 ^ r) (shr_high a b y h)

-- the last b bits
last : (a y b : ℕ) → y < 2 ^ b → (a * 2 ^ b + y) / 2 ^ 0 % 2 ^ b ≡ y
last a y b h = ap (λ x. x % 2 ^ b) (div-one (a * 2 ^ b + y)) ∙ mod_low a b y h

-- ---- the words of a card, in their parts
module _ (f : Fields) (ok : Lawful f) where
  abbrev n : ℕ
  n = length f.value

  abbrev v : ℕ
  v = value_words n

  abbrev H : ℕ
  H = header_number f

  abbrev V : ℕ
  V = number_from_digits 256 f.value

  flag_lt : (b : Bool) → cond b 1 0 < 2
  flag_lt true = omega arith
  flag_lt false = omega arith

  H-lt : H < 2 ^ 40
  H-lt = let a = flag_lt f.extendable in let i = ok.identifier in omega (arith, ok.exponent, ok.group, ok.group_threshold_least, ok.group_threshold_most, ok.group_count, ok.member, ok.member_threshold_least, ok.member_threshold_most)

  V-lt : V < 2 ^ (8 * n)
  V-lt = subst (λ p. V < p) (power-of 8 n) (number_lt 256 f.value ok.value_bytes)

  module _ (C : List ℕ) (three : length C ≡ 3) (small : AllBelowBase 1024 C) where
    abbrev A : List ℕ
    A = words_for 4 H

    abbrev M : List ℕ
    M = words_for v V

    abbrev ws : List ℕ
    ws = (A ++ M) ++ C

    words : length ws ≡ v + 7
    words =
        let a : length A ≡ 4 = length-words_for 4 H in
        let m : length M ≡ v = length-words_for v V in
        length-append (A ++ M) C ∙ ap (λ x. x + length C) (length-append A M) ∙ omega arith

    all_small : AllBelowBase 1024 ws
    all_small = All-append (λ d. d < 1024) (A ++ M) C (All-append (λ d. d < 1024) A M (small_words_for 4 H) (small_words_for v V)) small

    header : bits_at ws 0 40 ≡ H
    header =
        let size = words in
        B.run 10 ws all_small 0 4 (omega arith)
        ∙ ap (λ l. number_from_digits 1024 (take 4 l)) (append_assoc A M C)
        ∙ ap (number_from_digits 1024) (take_at A (M ++ C) 4 (length-words_for 4 H))
        ∙ number-words_for 4 H ∙ mod-eq_of_lt H-lt

    enough : 8 * n ≤ 10 * v
    enough = omega arith

    middle : bits_at ws 40 (10 * v) ≡ V
    middle =
        let size = words in
        let below : V < 2 ^ (10 * v) = lt_of_lt_of_le V-lt (pow_mono enough) in
        B.run 10 ws all_small 4 v (omega arith)
        ∙ ap (λ l. number_from_digits 1024 (take v (drop 4 l))) (append_assoc A M C)
        ∙ ap (λ l. number_from_digits 1024 (take v l)) (drop_at A (M ++ C) 4 (length-words_for 4 H))
        ∙ ap (number_from_digits 1024) (take_at M C v (length-words_for v V))
        ∙ number-words_for v V ∙ mod-eq_of_lt below

    field : (p q r : ℕ) → p + q + r ≡ 40 → bits_at ws (0 + p) q ≡ H / 2 ^ r % 2 ^ q
    field p q r e = let size = words in B.part 10 ws 0 40 p q r (omega arith) e ∙ ap (λ x. x / 2 ^ r % 2 ^ q) header

    half : n / 2 * 2 ≡ n
    half = let e = ok.value_even in omega arith

    pad : ℕ
    pad = padding_bits (length ws)

    -- the padding, and sixteen bits for each two bytes
    p : ℕ
    p = 10 * v - 16 * (n / 2)

    bits : value_bits (length ws) ≡ n / 2 * 16 + p
    unfolding p
    bits = let size = words in let e = half in ap value_bits size ∙ omega arith

    p-lt : p < 16
    unfolding p
    p-lt = let e = half in omega arith

    pad_is : pad + 8 * n ≡ 10 * v
    unfolding pad p
    pad_is =
        let e = half in
        let same : pad ≡ p = ap (λ b. b % 16) bits ∙ digits_mod (n / 2) {m = 16} {r = p} p-lt in
        omega arith

    pad_small : pad ≤ 8
    pad_small = let e = pad_is in omega arith

    bytes_count : value_length (length ws) ≡ n
    bytes_count = ap (λ b. b / 16 * 2) bits ∙ ap (λ m. m * 2) (digits_div (n / 2) {m = 16} {r = p} p-lt) ∙ half

    pub padding-none : bits_at ws 40 (padding_bits (length ws)) ≡ 0
    unfolding pad
    padding-none =
        let size = words in
        let total = pad_is in
        B.part 10 ws 40 (10 * v) 0 pad (8 * n) (omega arith) (omega arith)
        ∙ ap (λ x. x / 2 ^ (8 * n) % 2 ^ pad) middle
        ∙ ap (λ x. x % 2 ^ pad) (div-eq_of_lt V-lt)
        ∙ mod-eq_of_lt (pow_pos pad)

    byte : (k : ℕ) → k < n → bits_at ws (40 + pad + 8 * k) 8 ≡ get_or f.value k 0
    byte k h =
        let size = words in
        let total = pad_is in
        let r = 8 * n - 8 * k - 8 in
        ap (λ p. bits_at ws p 8) (omega arith)
        ∙ B.part 10 ws 40 (10 * v) (pad + 8 * k) 8 r (omega arith) (omega arith)
        ∙ ap (λ x. x / 2 ^ r % 2 ^ 8) (middle ∙ sym (B.whole_bits 8 f.value ok.value_bytes))
        ∙ sym (B.part 8 f.value 0 (8 * n) (8 * k) 8 r (omega arith) (omega arith))
        ∙ ap (λ p. bits_in 8 f.value p 8) (zero-add (8 * k))
        ∙ B.digit 8 f.value ok.value_bytes k h

    value : bytes_at ws (40 + padding_bits (length ws)) (value_length (length ws)) ≡ f.value
    unfolding pad
    value =
        let count = bytes_count in
        let size : length (bytes_at ws (40 + pad) n) ≡ n = B.length-bytes ws (40 + pad) n in
        ap (bytes_at ws (40 + pad)) count
        ∙ ext_get_or 0 (bytes_at ws (40 + pad) n) f.value size
        (λ k h. let lt : k < n = omega arith in B.bytes-at ws (40 + pad) n k lt ∙ byte k lt)

    flag : (b : Bool) (x : ℕ) → x ≡ cond b 1 0 → eqb x 1 ≡ b
    flag true x e = eq-eqb x 1 e
    flag false x e = ne_eqb x 1 (λ z. omega arith)

    pub says : fields_in ws ≡ f
    says =
        let b : ℕ = cond f.extendable 1 0 in
        let h1 : ℕ = f.identifier * 2 + b in
        let h2 : ℕ = h1 * 16 + f.exponent in
        let h3 : ℕ = h2 * 16 + f.group in
        let h4 : ℕ = h3 * 16 + (f.group_threshold - 1) in
        let h5 : ℕ = h4 * 16 + (f.group_count - 1) in
        let h6 : ℕ = h5 * 16 + f.member in
        let s1 : b < 2 = flag_lt f.extendable in
        let s2 = ok.exponent in
        let s3 : f.group < 16 = omega (arith, ok.group, ok.group_count) in
        let s4 : f.group_threshold - 1 < 16 = omega (arith, ok.group_threshold_most, ok.group_count) in
        let s5 : f.group_count - 1 < 16 = omega (arith, ok.group_count) in
        let s6 = ok.member in
        let s7 : f.member_threshold - 1 < 16 = omega (arith, ok.member_threshold_most) in
        let d6 : (r : ℕ) → H / 2 ^ (4 + r) ≡ h6 / 2 ^ r = λ r. peel h6 (f.member_threshold - 1) 4 r s7 in
        let d5 : (r : ℕ) → H / 2 ^ (4 + (4 + r)) ≡ h5 / 2 ^ r = λ r. d6 (4 + r) ∙ peel h5 f.member 4 r s6 in
        let d4 : (r : ℕ) → H / 2 ^ (4 + (4 + (4 + r))) ≡ h4 / 2 ^ r = λ r. d5 (4 + r) ∙ peel h4 (f.group_count - 1) 4 r s5 in
        let d3 : (r : ℕ) → H / 2 ^ (4 + (4 + (4 + (4 + r)))) ≡ h3 / 2 ^ r = λ r. d4 (4 + r) ∙ peel h3 (f.group_threshold - 1) 4 r s4 in
        let d2 : (r : ℕ) → H / 2 ^ (4 + (4 + (4 + (4 + (4 + r))))) ≡ h2 / 2 ^ r = λ r. d3 (4 + r) ∙ peel h2 f.group 4 r s3 in
        let d1 : (r : ℕ) → H / 2 ^ (4 + (4 + (4 + (4 + (4 + (4 + r)))))) ≡ h1 / 2 ^ r = λ r. d2 (4 + r) ∙ peel h1 f.exponent 4 r s2 in
        same_fields (fields_in ws) f
        (field 0 15 25 refl ∙ ap (λ x. x % 32768) (d1 1 ∙ shr_high f.identifier 1 b s1) ∙ mod-eq_of_lt ok.identifier)
        (flag f.extendable (bits_at ws 15 1) (field 15 1 24 refl ∙ ap (λ x. x % 2) (d1 0) ∙ last f.identifier b 1 s1))
        (field 16 4 20 refl ∙ ap (λ x. x % 16) (d2 0) ∙ last h1 f.exponent 4 s2)
        (field 20 4 16 refl ∙ ap (λ x. x % 16) (d3 0) ∙ last h2 f.group 4 s3)
        (ap (λ x. x + 1) (field 24 4 12 refl ∙ ap (λ x. x % 16) (d4 0) ∙ last h3 (f.group_threshold - 1) 4 s4) ∙ omega (arith, ok.group_threshold_least))
        (ap (λ x. x + 1) (field 28 4 8 refl ∙ ap (λ x. x % 16) (d5 0) ∙ last h4 (f.group_count - 1) 4 s5) ∙ omega (arith, ok.group))
        (field 32 4 4 refl ∙ ap (λ x. x % 16) (d6 0) ∙ last h5 f.member 4 s6)
        (ap (λ x. x + 1) (field 36 4 0 refl ∙ last h6 (f.member_threshold - 1) 4 s7) ∙ omega (arith, ok.member_threshold_least))
        value

    pub fits : count_fits (length ws) ≡ true
    unfolding pad
    fits =
        let size = words in
        let small-pad = pad_small in
        let least = ok.value_least in
        let most = ok.value_most in
        and_from _ _ (le-leb 20 (length ws) (omega arith)) (and_from _ _ (le-leb (length ws) 59 (omega arith)) (le-leb (padding_bits (length ws)) 8 small-pad))
