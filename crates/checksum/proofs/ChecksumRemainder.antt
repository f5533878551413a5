-- A card is right exactly when its polynomial leaves the remainder 1.
use Rattle.std.proofs.Common.{◌≡◌, ℕ, suc, ◌-◌, Bool, true, false, List, [], ◌∷◌, map, length, sym, refl, ap, ◌∙◌, ap₂, arith, lit≤}
use Rattle.std.specs.Str.{bytes_eq}
use Rattle.std.proofs.lemmas.Slice.Eq.{bytes_eq-Decides}
use Rattle.field.specs.CarryLess.{times_x, product_by}
use Rattle.field.specs.declared.gf1024.Gf1024.{Gf1024}
use Rattle.field.specs.Gf1024.{element, sum, product}
use Rattle.field.specs.Polynomial.{divide_steps}
use Rattle.field.proofs.FieldRing as Ring
use Rattle.field.specs.Gf1024Laws.{same, laws}
use Rattle.field.proofs.Horner.{from_zero}
use Rattle.field.proofs.PolynomialDivision as Division
use Rattle.field.proofs.SparsePolynomial.{sparse_short}
use Rattle.checksum.specs.Values.{values}
use Rattle.checksum.specs.Checksum.{coefficients, times_generator, remainder_of, is_right, Right}
use Rattle.checksum.proofs.ChecksumPolynomial.{at, elements-values}
use Rattle.checksum.proofs.ChecksumRoots.{Ones, no_difference, right_ones, ones_right}

-- ---- the generator is x^3 + 14 x^2 + 56 x + 64
abbrev pub generator : List Gf1024
generator = element 1 ∷ element 14 ∷ element 56 ∷ element 64 ∷ []

pub generator-is : times_generator (element 1 ∷ []) ≡ generator
unfolding times_x product_by
generator-is = ap₂ ◌∷◌ (same _ _ refl) (ap₂ ◌∷◌ (same _ _ refl) (ap₂ ◌∷◌ (same _ _ refl) (ap₂ ◌∷◌ (same _ _ refl) refl)))

abbrev pub Root : Gf1024 → Type 0
Root x = Division.quad laws x (element 14) (element 56) (element 64) ≡ product x (product x x)

pub root_2 : Root (element 2)
unfolding times_x product_by
root_2 = same _ _ refl

pub root_4 : Root (element 4)
unfolding times_x product_by
root_4 = same _ _ refl

pub root_8 : Root (element 8)
unfolding times_x product_by
root_8 = same _ _ refl

-- ---- the division, as a register of three coefficients
abbrev pub divided : Gf1024 → Gf1024 → Gf1024 → List Gf1024 → List Gf1024
divided p q r cs = divide_steps sum product generator (length cs) (p ∷ q ∷ r ∷ cs)

pub remainder-divided : (p q r : Gf1024) (cs : List Gf1024) → remainder_of (p ∷ q ∷ r ∷ cs) ≡ divided p q r cs
remainder-divided p q r cs =
    let n : suc (suc (suc (suc (length cs)))) - 4 ≡ length cs = omega arith in
    ap (λ g. divide_steps sum product g (suc (suc (suc (suc (length cs)))) - 4) (p ∷ q ∷ r ∷ cs)) generator-is
    ∙ ap (λ k. divide_steps sum product generator k (p ∷ q ∷ r ∷ cs)) n

module _ (p q r : Gf1024) (cs : List Gf1024) where
  pub keeps_value : (x : Gf1024) → Root x → at x (element 0) (remainder_of (p ∷ q ∷ r ∷ cs)) ≡ at x (element 0) (p ∷ q ∷ r ∷ cs)
  keeps_value x h =
      ap (at x (element 0)) (remainder-divided p q r cs)
      ∙ Division.steps-value laws x (element 1) (element 14) (element 56) (element 64) h p q r cs

  pub three-left : (u : Gf1024) × (v : Gf1024) × (w : Gf1024) × (remainder_of (p ∷ q ∷ r ∷ cs) ≡ u ∷ v ∷ w ∷ [])
  three-left =
      let t = Division.three-left laws (element 1) (element 14) (element 56) (element 64) p q r cs in
      (t.0, t.1, t.2, remainder-divided p q r cs ∙ t.3)

  pub keeps_2 : at (element 2) (element 0) (remainder_of (p ∷ q ∷ r ∷ cs)) ≡ at (element 2) (element 0) (p ∷ q ∷ r ∷ cs)
  keeps_2 = keeps_value (element 2) root_2

  pub keeps_4 : at (element 4) (element 0) (remainder_of (p ∷ q ∷ r ∷ cs)) ≡ at (element 4) (element 0) (p ∷ q ∷ r ∷ cs)
  keeps_4 = keeps_value (element 4) root_4

  pub keeps_8 : at (element 8) (element 0) (remainder_of (p ∷ q ∷ r ∷ cs)) ≡ at (element 8) (element 0) (p ∷ q ∷ r ∷ cs)
  keeps_8 = keeps_value (element 8) root_8

-- ---- the remainder 1
abbrev one_left : List Gf1024
one_left = element 0 ∷ element 0 ∷ element 1 ∷ []

pub one_value : (x : Gf1024) → at x (element 0) one_left ≡ element 1
one_value x =
    ap (λ y. at x (sum (element 0) y) (element 0 ∷ element 1 ∷ [])) (Ring.times_zero laws x)
    ∙ ap (λ y. at x y (element 0 ∷ element 1 ∷ [])) (laws.sum_zero (element 0))
    ∙ ap (λ y. at x (sum (element 0) y) (element 1 ∷ [])) (Ring.times_zero laws x)
    ∙ ap (λ y. at x y (element 1 ∷ [])) (laws.sum_zero (element 0))
    ∙ ap (λ y. sum (element 1) y) (Ring.times_zero laws x)
    ∙ laws.sum_zero (element 1)

module _ (p q r : Gf1024) (cs : List Gf1024) where
  ones_remainder : Ones (p ∷ q ∷ r ∷ cs) → remainder_of (p ∷ q ∷ r ∷ cs) ≡ one_left
  ones_remainder o =
      let t = three-left p q r cs in
      let rest = t.0 ∷ t.1 ∷ t.2 ∷ [] in
      let e : remainder_of (p ∷ q ∷ r ∷ cs) ≡ rest = t.3 in
      e ∙ no_difference (λ _. element 0) rest one_left refl (lit≤ tt) (sparse_short _)
      (ap (at (element 2) (element 0)) (sym e) ∙ keeps_2 p q r cs ∙ from_zero laws (element 2) (p ∷ q ∷ r ∷ cs) ∙ o.at_2 ∙ sym (one_value (element 2)))
      (ap (at (element 4) (element 0)) (sym e) ∙ keeps_4 p q r cs ∙ from_zero laws (element 4) (p ∷ q ∷ r ∷ cs) ∙ o.at_4 ∙ sym (one_value (element 4)))
      (ap (at (element 8) (element 0)) (sym e) ∙ keeps_8 p q r cs ∙ from_zero laws (element 8) (p ∷ q ∷ r ∷ cs) ∙ o.at_8 ∙ sym (one_value (element 8)))

  remainder-ones : remainder_of (p ∷ q ∷ r ∷ cs) ≡ one_left → Ones (p ∷ q ∷ r ∷ cs)
  remainder-ones e = record {
    at_2 = sym (from_zero laws (element 2) (p ∷ q ∷ r ∷ cs)) ∙ sym (keeps_2 p q r cs) ∙ ap (at (element 2) (element 0)) e ∙ one_value (element 2);
    at_4 = sym (from_zero laws (element 4) (p ∷ q ∷ r ∷ cs)) ∙ sym (keeps_4 p q r cs) ∙ ap (at (element 4) (element 0)) e ∙ one_value (element 4);
    at_8 = sym (from_zero laws (element 8) (p ∷ q ∷ r ∷ cs)) ∙ sym (keeps_8 p q r cs) ∙ ap (at (element 8) (element 0)) e ∙ one_value (element 8);
  }

-- ---- the test
test_left : (cs : List Gf1024) → bytes_eq (values cs) (0 ∷ 0 ∷ 1 ∷ []) ≡ true → cs ≡ one_left
test_left cs e = sym (elements-values cs) ∙ ap (map element) ((bytes_eq-Decides (values cs) (0 ∷ 0 ∷ 1 ∷ [])).0 e)

left-test : (cs : List Gf1024) → cs ≡ one_left → bytes_eq (values cs) (0 ∷ 0 ∷ 1 ∷ []) ≡ true
left-test cs e = ap (λ l. bytes_eq (values l) (0 ∷ 0 ∷ 1 ∷ [])) e

pub is_right-ones : (extendable : Bool) (ns : List ℕ) → is_right extendable ns ≡ true → Ones (coefficients extendable ns)
is_right-ones true ns e = remainder-ones _ _ _ _ (test_left (remainder_of (coefficients true ns)) e)
is_right-ones false ns e = remainder-ones _ _ _ _ (test_left (remainder_of (coefficients false ns)) e)

pub ones_is_right : (extendable : Bool) (ns : List ℕ) → Ones (coefficients extendable ns) → is_right extendable ns ≡ true
ones_is_right true ns o = left-test (remainder_of (coefficients true ns)) (ones_remainder _ _ _ _ o)
ones_is_right false ns o = left-test (remainder_of (coefficients false ns)) (ones_remainder _ _ _ _ o)

-- the remainder and the quotient
pub is_right_right : (extendable : Bool) (ns : List ℕ) → is_right extendable ns ≡ true → Right extendable ns
is_right_right extendable ns e = ones_right extendable ns (is_right-ones extendable ns e)

pub right_is_right : (extendable : Bool) (ns : List ℕ) → Right extendable ns → is_right extendable ns ≡ true
right_is_right extendable ns r = ones_is_right extendable ns (right_ones extendable ns r)
