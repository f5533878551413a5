-- The three values together say whether a card is right.
use Rattle.std.proofs.Common.{◌≡◌, ℕ, Bool, true, false, ◌&&◌, eqb, List, [], ◌∷◌, sym, refl, ap, ◌∙◌, ap₂}
use Rattle.std.specs.List.{list_all}
use Rattle.std.proofs.lemmas.Bool.{eqb-true, eq-eqb, and_parts, and_from}
use Rattle.field.specs.declared.gf1024.Gf1024.{Gf1024}
use Rattle.field.specs.Gf1024.{element}
use Rattle.field.specs.Gf1024Laws.{same}
use Rattle.checksum.specs.Checksum.{coefficients, is_right}
use Rattle.checksum.proofs.ChecksumPolynomial.{val}
use Rattle.checksum.proofs.ChecksumRoots.{Ones}
use Rattle.checksum.proofs.ChecksumRemainder.{is_right-ones, ones_is_right}

same_bool : (a b : Bool) → (a ≡ true → b ≡ true) → (b ≡ true → a ≡ true) → a ≡ b
same_bool true b f g = sym (f refl)
same_bool false true f g = g refl
same_bool false false f g = refl

-- the test at the element with the value n
module _ (p : List Gf1024) (n : ℕ) (x : Gf1024) (b : Bool) (is : x.value ≡ (element n).value) (test : b ≡ eqb (val x p).value 1) where
  at-element : val x p ≡ val (element n) p
  at-element = ap (λ y. val y p) (same x (element n) is)

  pub test_one : b ≡ true → val (element n) p ≡ element 1
  test_one e = sym at-element ∙ same _ _ (eqb-true (val x p).value 1 (sym test ∙ e))

  pub one-test : val (element n) p ≡ element 1 → b ≡ true
  one-test e = test ∙ eq-eqb (val x p).value 1 (ap (λ y. y.value) (at-element ∙ e))

-- whether the value at the element with the value a is 1
abbrev pub is_one : List Gf1024 → ℕ → Bool
is_one p a = eqb (val (element a) p).value 1

abbrev pub tests : List Gf1024 → Bool
tests p = list_all (is_one p) (2 ∷ 4 ∷ 8 ∷ [])

one : (p : List Gf1024) (a : ℕ) → is_one p a ≡ true → val (element a) p ≡ element 1
one p a = test_one p a (element a) (is_one p a) refl refl

test : (p : List Gf1024) (a : ℕ) → val (element a) p ≡ element 1 → is_one p a ≡ true
test p a = one-test p a (element a) (is_one p a) refl refl

pub tests_ones : (p : List Gf1024) → tests p ≡ true → Ones p
tests_ones p e =
    let two = and_parts (is_one p 2) (list_all (is_one p) (4 ∷ 8 ∷ [])) e in
    let four = and_parts (is_one p 4) (list_all (is_one p) (8 ∷ [])) two.1 in
    let eight = and_parts (is_one p 8) true four.1 in
    record { at_2 = one p 2 two.0; at_4 = one p 4 four.0; at_8 = one p 8 eight.0 }

pub ones_tests : (p : List Gf1024) → Ones p → tests p ≡ true
ones_tests p o =
    and_from (is_one p 2) (list_all (is_one p) (4 ∷ 8 ∷ [])) (test p 2 o.at_2)
    (and_from (is_one p 4) (list_all (is_one p) (8 ∷ [])) (test p 4 o.at_4) (and_from (is_one p 8) true (test p 8 o.at_8) refl))

pub tests_right : (extendable : Bool) (ns : List ℕ) → tests (coefficients extendable ns) ≡ is_right extendable ns
tests_right extendable ns =
    let p = coefficients extendable ns in
    same_bool (tests p) (is_right extendable ns) (λ e. ones_is_right extendable ns (tests_ones p e)) (λ e. ones_tests p (is_right-ones extendable ns e))

-- ---- three tests, each at any element with that value
joined : (a b c : Bool) → ((a && b) && c) ≡ (a && (b && (c && true)))
joined true true true = refl
joined true true false = refl
joined true false c = refl
joined false b c = refl

module _ (extendable : Bool) (ns : List ℕ) (x2 x4 x8 : Gf1024) (b2 b4 b8 : Bool)
    (is2 : x2.value ≡ 2) (is4 : x4.value ≡ 4) (is8 : x8.value ≡ 8)
    (t2 : b2 ≡ eqb (val x2 (coefficients extendable ns)).value 1)
    (t4 : b4 ≡ eqb (val x4 (coefficients extendable ns)).value 1)
    (t8 : b8 ≡ eqb (val x8 (coefficients extendable ns)).value 1) where
  abbrev p : List Gf1024
  p = coefficients extendable ns

  three_tests : (b2 && b4) && b8 ≡ tests p
  three_tests =
      let at : (x : Gf1024) (n : ℕ) → x.value ≡ (element n).value → eqb (val x p).value 1 ≡ is_one p n =
      λ x n is. ap (λ y. eqb (val y p).value 1) (same x (element n) is) in
      ap₂ ◌&&◌ (ap₂ ◌&&◌ (t2 ∙ at x2 2 is2) (t4 ∙ at x4 4 is4)) (t8 ∙ at x8 8 is8)
      ∙ joined (is_one p 2) (is_one p 4) (is_one p 8)

  pub three_ones : (b2 && b4) && b8 ≡ true → Ones p
  three_ones e = tests_ones p (sym three_tests ∙ e)

  pub ones_three : Ones p → (b2 && b4) && b8 ≡ true
  ones_three o = three_tests ∙ ones_tests p o

  pub three_right : (b2 && b4) && b8 ≡ is_right extendable ns
  three_right = three_tests ∙ tests_right extendable ns
