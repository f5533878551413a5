-- Hexadecimal digits, as the library writes and reads them.
use Rattle.std.proofs.Common.{◌≡◌, ℕ, zero, suc, ◌+◌, ◌*◌, ◌/◌, ◌%◌, ◌<◌, ◌≤◌, Bool, true, false, cond, ◌&&◌, eqb, ltb, leb, List, [], ◌∷◌, length, get_or, take, drop, Some, None, Ok, Err, Option, Result, sym, refl, ap, ◌∙◌, inl, inr, is_ok, arith, MatchOption, MatchResult}
use Rattle.std.proofs.lemmas.List.{drop_more}
use Rattle.std.proofs.lemmas.Bool.{and_from, and_left, and_parts, and_right, cases_Bool, cases_lt, cond-true, cond-false, eq-eqb, eqb-true, le-leb, leb-true, lt-leb, ne_eqb, true≢false}
use Rattle.std.proofs.lemmas.Bool.Decides.{nat_tests}
use Rattle.std.specs.Option.{option_map}
use Rattle.std.specs.Char.{digit_value}
use Rattle.hex.specs.Hex.{decode_pairs, decode_sized, digit_or_error, encode_with, hex_digit_value, lower_digits, ◌>>=◌}
use Rattle.hex.specs.declared.error.FromHexError.{FromHexError}
use Rattle.hex.specs.declared.error.FromHexError.TheVariants.{OddLength}
use Rattle.reader.specs.declared.value.Value.{Value}
use Rattle.commands.specs.Answers.{hex_digit, hex_of}
use Rattle.commands.specs.Arguments.{only_digits, bytes_in, is_value, value_from}
use Rattle.commands.proofs.DecimalNumbers.{some-passed, none-failed}

-- ---- written
-- the test of the first n digits, which computes
abbrev same_below : ℕ → Bool
same_below zero = true
same_below (suc n) = eqb (get_or lower_digits n 0) (hex_digit n) && same_below n

same_at : (n k : ℕ) → same_below n ≡ true → k < n → get_or lower_digits k 0 ≡ hex_digit k
same_at zero k h l = absurd (omega arith)
same_at (suc n) k h l =
    let parts = and_parts (eqb (get_or lower_digits n 0) (hex_digit n)) (same_below n) h in
    elim (cases_lt k n) [
      | inl below ↦ same_at n k parts.1 below
      | inr top ↦
          let e : k ≡ n = omega arith in
          rw e (eqb-true (get_or lower_digits n 0) (hex_digit n) parts.0)
    ]

pub encoded : (bytes : List ℕ) → ((k : ℕ) → get_or bytes k 0 < 256) → encode_with lower_digits bytes ≡ hex_of bytes
unfolding encode_with
encoded [] h = refl
encoded (b ∷ bs) h =
    let small : b < 256 = h 0 in
    let high = same_at 16 (b / 16) refl (omega arith) in
    let low = same_at 16 (b % 16) refl (omega arith) in
    let more = encoded bs (λ k. h (suc k)) in
    cc

-- ---- read
one_digit : (c : ℕ) → hex_digit_value c ≡ cond (ltb (digit_value c) 16) (Some (digit_value c)) None
one_digit c = grind (arith, nat_tests)

-- what a test of a digit makes of its value
abbrev read : Bool → ℕ → ℕ → ℕ → Result ℕ FromHexError
read t v c i = digit_or_error c i (cond t (Some v) None)

module _ (high low i : ℕ) (h l : ℕ) (only : Bool) (more : List ℕ) where
  pair_read : (s t : Bool) (r : Result (List ℕ) FromHexError)
      → MatchResult r (λ bytes. (only ≡ true) × (bytes ≡ more)) (λ e. only ≡ false)
      → MatchResult ((read s h high i >>= (λ x. read t l low (i + 1) >>= (λ y. Ok (x * 16 + y)))) >>= (λ b. r >>= (λ bytes. Ok (b ∷ bytes))))
      (λ bytes. ((s && (t && only)) ≡ true) × (bytes ≡ (h * 16 + l) ∷ more)) (λ e. (s && (t && only)) ≡ false)
  pair_read true true (Ok bytes) m = (m.0, ap (λ rest. (h * 16 + l) ∷ rest) m.1)
  pair_read true true (Err e) m = m
  pair_read true false r m = refl
  pair_read false t r m = refl

decoded : (text : List ℕ) (i : ℕ) → length text % 2 ≡ 0 → MatchResult (decode_pairs i text) (λ bytes. (only_digits 16 text ≡ true) × (bytes ≡ bytes_in text)) (λ e. only_digits 16 text ≡ false)
unfolding decode_pairs
decoded [] i e = (refl, refl)
decoded (digit ∷ []) i e = absurd (omega arith)
decoded (high ∷ low ∷ more) i e =
    rw (one_digit high, one_digit low)
    (pair_read high low i (digit_value high) (digit_value low) (only_digits 16 more) (bytes_in more) (ltb (digit_value high) 16) (ltb (digit_value low) 16)
    (decode_pairs (i + 2) more) (decoded more (i + 2) (omega arith)))

-- ---- two digits more
later : (i : ℕ) → 2 * i + 1 + 1 ≡ 2 * (i + 1)
later i = omega arith

pub two-more : (text : List ℕ) (i : ℕ) → 2 * i + 1 < length text
    → drop (2 * i) text ≡ get_or text (2 * i) 0 ∷ get_or text (2 * i + 1) 0 ∷ drop (2 * (i + 1)) text
two-more text i h =
    drop_more text (2 * i) 0 (omega arith)
    ∙ ap (λ more. get_or text (2 * i) 0 ∷ more) (drop_more text (2 * i + 1) 0 h ∙ ap (λ n. get_or text (2 * i + 1) 0 ∷ drop n text) (later i))

joint : (x y z : Bool) → (x && (y && z)) ≡ ((x && (y && true)) && z)
joint true true z = refl
joint true false z = refl
joint false y z = refl

pair-digits : (high low : ℕ) (more : List ℕ) → only_digits 16 (high ∷ low ∷ more) ≡ (only_digits 16 (high ∷ low ∷ []) && only_digits 16 more)
pair-digits high low more = joint (ltb (digit_value high) 16) (ltb (digit_value low) 16) (only_digits 16 more)

module _ (high low : ℕ) (more : List ℕ) where
  abbrev pair : Option ℕ
  pair = cond (only_digits 16 (high ∷ low ∷ [])) (Some (digit_value high * 16 + digit_value low)) None

  pub pair-more : (b : ℕ) → Some b ≡ pair → (only_digits 16 (high ∷ low ∷ more) ≡ only_digits 16 more) × (b ≡ digit_value high * 16 + digit_value low)
  pair-more b e =
      let p = some-passed (only_digits 16 (high ∷ low ∷ [])) (digit_value high * 16 + digit_value low) b e in
      (pair-digits high low more ∙ ap (λ t. t && only_digits 16 more) p.0, p.1)

  pub pair-none : None ≡ pair → only_digits 16 (high ∷ low ∷ more) ≡ false
  pair-none e = pair-digits high low more ∙ and_left (only_digits 16 (high ∷ low ∷ [])) (only_digits 16 more) (none-failed (only_digits 16 (high ∷ low ∷ [])) _ e)

-- ---- values
doubled : (n q : ℕ) → n ≡ 2 * q → n % 2 ≡ 0
doubled n q e = omega arith

module _ (text : List ℕ) where
  abbrev fours : Bool
  fours = eqb (length text % 4) 0

  abbrev inside : Bool
  inside = leb 32 (length text) && leb (length text) 128

  failed : (only_digits 16 text && (fours && inside)) ≡ false → None ≡ value_from text
  failed e = sym (cond-false (is_value text) (Some (bytes_in text)) None e)

  pub no_digits : only_digits 16 text ≡ false → None ≡ value_from text
  no_digits e = failed (and_left (only_digits 16 text) (fours && inside) e)

  pub odd_digits : (length text % 2 ≡ 0 → ⊥) → None ≡ value_from text
  odd_digits h = failed (and_right (only_digits 16 text) _ (and_left fours inside (ne_eqb (length text % 4) 0 (λ e. h (omega arith)))))

  pub many-digits : 128 < length text → None ≡ value_from text
  many-digits h = failed (and_right (only_digits 16 text) _ (and_right fours _ (and_right (leb 32 (length text)) _ (lt-leb (length text) 128 h))))

  pub value_made : (bytes : List ℕ) (count : ℕ) → length text ≡ 2 * count → only_digits 16 text ≡ true → take count bytes ≡ bytes_in text → (r : Option Value)
      → MatchOption r (16 ≤ count → count ≤ 64 → count % 2 ≡ 1) (λ v. (length v.bytes ≡ count) × (v.bytes ≡ take count bytes))
      → option_map (λ v. v.bytes) r ≡ value_from text
  value_made bytes count size only same None h =
      elim (cases_Bool (fours && inside)) [
        | inl e ↦
            let four : length text % 4 ≡ 0 = eqb-true (length text % 4) 0 (and_parts fours inside e).0 in
            let ends = and_parts (leb 32 (length text)) _ (and_parts fours inside e).1 in
            let least : 32 ≤ length text = leb-true 32 (length text) ends.0 in
            let most : length text ≤ 128 = leb-true (length text) 128 ends.1 in
            let half : count ≡ 2 * (length text / 4) = omega arith in
            let odd : count % 2 ≡ 1 = h (omega arith) (omega arith) in
            absurd (omega (arith, doubled count (length text / 4) half))
        | inr e ↦ failed (and_right (only_digits 16 text) _ e)
      ]
  value_made bytes count size only same (Some v) h =
      let least = v.least in
      let most = v.most in
      let even = v.even in
      let long = h.0 in
      ap Some (h.1 ∙ same)
      ∙ sym (cond-true (is_value text) (Some (bytes_in text)) None
      (and_from (only_digits 16 text) _ only
      (and_from fours _ (eq-eqb (length text % 4) 0 (omega arith))
      (and_from (leb 32 (length text)) _ (le-leb 32 (length text) (omega arith)) (le-leb (length text) 128 (omega arith))))))

-- what came of decoding a text into space for half as many bytes
module _ (text : List ℕ) (n : ℕ) (size : n ≡ length text / 2) (r : Result (Unit {0}) FromHexError) (out : List ℕ) (h : MatchResult (decode_sized text n) (λ bytes. (r ≡ Ok tt) × (out ≡ bytes)) (λ e. r ≡ Err e)) where
  odd_sized : length text % 2 ≡ 1 → decode_sized text n ≡ Err OddLength
  odd_sized e = grind (arith, nat_tests)

  even_sized : length text % 2 ≡ 0 → decode_sized text n ≡ decode_pairs 0 text
  even_sized e = grind (arith, nat_tests)

  outcome : (p : Result (List ℕ) FromHexError) → MatchResult p (λ bytes. (only_digits 16 text ≡ true) × (bytes ≡ bytes_in text)) (λ e. only_digits 16 text ≡ false)
      → MatchResult p (λ bytes. (r ≡ Ok tt) × (out ≡ bytes)) (λ e. r ≡ Err e)
      → MatchResult r (λ _. (only_digits 16 text ≡ true) × (out ≡ bytes_in text)) (λ e. only_digits 16 text ≡ false)
  outcome (Ok bytes) d m = rw m.0 (d.0, m.1 ∙ d.1)
  outcome (Err e) d m = rw m d

  even_outcome : length text % 2 ≡ 0 → MatchResult r (λ _. (only_digits 16 text ≡ true) × (out ≡ bytes_in text)) (λ e. only_digits 16 text ≡ false)
  even_outcome e = outcome (decode_pairs 0 text) (decoded text 0 e) (rw (even_sized e) at h)

  pub refused : is_ok r ≡ false → None ≡ value_from text
  refused k =
      elim (cases_lt (length text % 2) 1) [
        | inl even ↦ no_digits text (none_read r k (even_outcome (omega arith)))
        | inr odd ↦ odd_digits text (λ e. omega arith)
      ]
    where
      none_read : (q : Result (Unit {0}) FromHexError) → is_ok q ≡ false → MatchResult q (λ _. (only_digits 16 text ≡ true) × (out ≡ bytes_in text)) (λ e. only_digits 16 text ≡ false) → only_digits 16 text ≡ false
      none_read (Ok u) e m = absurd (true≢false e)
      none_read (Err e) e' m = m

  pub read_all : is_ok r ≡ true → (length text % 2 ≡ 0) × (only_digits 16 text ≡ true) × (out ≡ bytes_in text)
  read_all k =
      elim (cases_lt (length text % 2) 1) [
        | inl even ↦ let m = all_read r k (even_outcome (omega arith)) in (omega arith, m.0, m.1)
        | inr odd ↦
            let none = rw (odd_sized (omega arith)) at h in
            absurd (true≢false (sym k ∙ ap is_ok none))
      ]
    where
      all_read : (q : Result (Unit {0}) FromHexError) → is_ok q ≡ true → MatchResult q (λ _. (only_digits 16 text ≡ true) × (out ≡ bytes_in text)) (λ e. only_digits 16 text ≡ false) → (only_digits 16 text ≡ true) × (out ≡ bytes_in text)
      all_read (Ok u) e m = m
      all_read (Err e) e' m = absurd (true≢false (sym e'))
