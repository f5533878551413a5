-- Numbers in decimal digits, one digit after the other.
use Rattle.std.proofs.Common.{◌≡◌, ℕ, ◌+◌, ◌*◌, ◌<◌, ◌≤◌, Bool, true, false, cond, ◌&&◌, ltb, leb, List, [], ◌∷◌, length, Some, None, sym, refl, ap, arith}
use Rattle.std.proofs.lemmas.Bool.{and_from, and_left, and_right, cond-true, cond-false, lt-ltb, le-leb, lt-leb}
use Rattle.std.specs.Str.Parse.{digits_value_after}
use Rattle.std.specs.Char.{digit_value}
use Rattle.commands.specs.Arguments.{digit_from, only_digits, number_in, is_number, number_from}

-- ---- what comes of a test
pub some-passed : {A : Type 0} (t : Bool) (x y : A) → Some y ≡ cond t (Some x) None → (t ≡ true) × (y ≡ x)
some-passed true x y e = (refl, cc)
some-passed false x y e = absurd (let z : ◌≡◌ {A = ℕ} 0 1 = cc in omega arith)

pub none-failed : {A : Type 0} (t : Bool) (x : A) → None ≡ cond t (Some x) None → t ≡ false
none-failed true x e = absurd (let z : ◌≡◌ {A = ℕ} 0 1 = cc in omega arith)
none-failed false x e = refl

-- ---- digits
module _ (radix b : ℕ) (bs : List ℕ) where
  pub digit_more : (d : ℕ) → Some d ≡ digit_from radix b → (only_digits radix (b ∷ bs) ≡ only_digits radix bs) × (d ≡ digit_value b)
  digit_more d e =
      let p = some-passed (ltb (digit_value b) radix) (digit_value b) d e in
      (ap (λ t. t && only_digits radix bs) p.0, p.1)

  pub digit_none : None ≡ digit_from radix b → only_digits radix (b ∷ bs) ≡ false
  digit_none e = and_left (ltb (digit_value b) radix) (only_digits radix bs) (none-failed (ltb (digit_value b) radix) (digit_value b) e)

-- ---- numbers
at_least : (n : ℕ) (bs : List ℕ) → n ≤ digits_value_after 10 n bs
at_least n [] = omega arith
at_least n (b ∷ bs) = omega (arith, at_least (n * 10 + digit_value b) bs)

module _ (most : ℕ) (text : List ℕ) where
  abbrev some : Bool
  some = ltb 0 (length text)

  abbrev inside : Bool
  inside = leb 0 (number_in text) && leb (number_in text) most

  failed : (some && (only_digits 10 text && inside)) ≡ false → None ≡ number_from 0 most text
  failed e = sym (cond-false (is_number 0 most text) (Some (number_in text)) None e)

  pub no_digits : only_digits 10 text ≡ false → None ≡ number_from 0 most text
  no_digits e = failed (and_right some _ (and_left (only_digits 10 text) inside e))

  pub too_large : (n : ℕ) (bs : List ℕ) → digits_value_after 10 n bs ≡ number_in text → most < n → None ≡ number_from 0 most text
  too_large n bs e h =
      failed (and_right some _ (and_right (only_digits 10 text) _ (and_right (leb 0 (number_in text)) _ (lt-leb (number_in text) most (omega (arith, at_least n bs))))))

  pub in_range : 0 < length text → only_digits 10 text ≡ true → number_in text ≤ most → Some (number_in text) ≡ number_from 0 most text
  in_range h d m =
      sym (cond-true (is_number 0 most text) (Some (number_in text)) None
      (and_from some _ (lt-ltb 0 (length text) h)
      (and_from (only_digits 10 text) _ d (and_from (leb 0 (number_in text)) _ (le-leb 0 (number_in text) (omega arith)) (le-leb (number_in text) most m)))))
