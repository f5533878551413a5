-- A card is right exactly when its polynomial has the value 1 at a, a^2 and a^3, where a = 2.
use Rattle.std.proofs.Common.{◌≡◌, ℕ, zero, suc, ◌<◌, ◌≤◌, Bool, true, false, not, T, eqb, List, ◌∷◌, length, sym, refl, ap, ◌∙◌, subst, arith, eq-eqb}
use Rattle.field.specs.CarryLess.{times_x, product_by}
use Rattle.field.specs.declared.gf1024.Gf1024.{Gf1024}
use Rattle.field.specs.Gf1024.{element, sum, product}
use Rattle.field.specs.Polynomial.{power, plus_constant}
use Rattle.std.proofs.lemmas.Bool.{agree_below, agree_below_at}
use Rattle.field.specs.Gf1024Laws.{same, laws}
use Rattle.field.proofs.Horner.{from_zero}
use Rattle.field.proofs.SparsePolynomial as Sparse
use Rattle.field.proofs.PolynomialRoots as Roots
use Rattle.checksum.specs.Checksum.{coefficients, times_generator, Right}
use Rattle.checksum.proofs.ChecksumPolynomial.{at, val}

pub record Ones (p : List Gf1024) : Type 0 where
  pub at_2 : val (element 2) p ≡ element 1
  pub at_4 : val (element 4) p ≡ element 1
  pub at_8 : val (element 8) p ≡ element 1

differ : (m n : ℕ) → T (not (eqb m n)) → m ≡ n → ⊥
differ m n t e = subst (λ b. T (not b)) (eq-eqb m n e) t

unequal : {m n : ℕ} (a b : Gf1024) → a.value ≡ m → b.value ≡ n → T (not (eqb m n)) → a ≡ b → ⊥
unequal {m} {n} a b ha hb t e = differ m n t (sym ha ∙ ap (λ x. x.value) e ∙ hb)

-- ---- the quotient
module _ (p : List Gf1024) (q : List Gf1024) (is : p ≡ plus_constant sum (element 1) (times_generator q)) where
  value-one : (x : Gf1024) → at x (element 0) (plus_constant sum (element 1) (times_generator q)) ≡ element 1 → val x p ≡ element 1
  value-one x h = sym (from_zero laws x p) ∙ ap (at x (element 0)) is ∙ h

  pub quotient-ones : Ones p
  quotient-ones = record {
    at_2 = value-one (element 2) (Roots.value-r laws (element 2) (element 4) (element 8) (element 1) q);
    at_4 = value-one (element 4) (Roots.value-s laws (element 2) (element 4) (element 8) (element 1) q);
    at_8 = value-one (element 8) (Roots.value-t laws (element 2) (element 4) (element 8) (element 1) q);
  }

pub ones_quotient : (a b c : Gf1024) (cs : List Gf1024) → Ones (a ∷ b ∷ c ∷ cs)
    → (q : List Gf1024) × (a ∷ b ∷ c ∷ cs ≡ plus_constant sum (element 1) (times_generator q))
ones_quotient a b c cs o =
    let p = a ∷ b ∷ c ∷ cs in
    Roots.divided laws (element 2) (element 4) (element 8) (element 1) a b c cs
    (unequal (element 4) (element 2) refl refl tt) (unequal (element 8) (element 2) refl refl tt) (unequal (element 8) (element 4) refl refl tt)
    (from_zero laws (element 2) p ∙ o.at_2) (from_zero laws (element 4) p ∙ o.at_4) (from_zero laws (element 8) p ∙ o.at_8)

pub right_ones : (extendable : Bool) (ns : List ℕ) → Right extendable ns → Ones (coefficients extendable ns)
right_ones extendable ns r = quotient-ones (coefficients extendable ns) r.0 r.1

pub ones_right : (extendable : Bool) (ns : List ℕ) → Ones (coefficients extendable ns) → Right extendable ns
ones_right true ns o = ones_quotient _ _ _ _ o
ones_right false ns o = ones_quotient _ _ _ _ o

-- ---- the powers of a
abbrev pub pow : Gf1024 → ℕ → Gf1024
pow = power (element 1) product

not_one : ℕ → Bool
not_one k = not (eqb (pow (element 2) (suc k)).value 1)

none-is-one : agree_below not_one (λ _. true) 59 ≡ true
unfolding times_x product_by not_one
none-is-one = refl

pub order : (k : ℕ) → k < 59 → pow (element 2) (suc k) ≡ element 1 → ⊥
unfolding not_one
order k h = unequal (pow (element 2) (suc k)) (element 1) refl refl (subst T (sym (agree_below_at not_one (λ _. true) 59 k none-is-one h)) tt)

a-not-zero : element 2 ≡ element 0 → ⊥
a-not-zero = unequal (element 2) (element 0) refl refl tt

one_not_zero : element 1 ≡ element 0 → ⊥
one_not_zero = unequal (element 1) (element 0) refl refl tt

first_power : pow (element 2) 1 ≡ element 2
unfolding times_x product_by
first_power = same _ _ refl

square : pow (element 2) 2 ≡ element 4
unfolding times_x product_by
square = same _ _ refl

cube : pow (element 2) 3 ≡ element 8
unfolding times_x product_by
cube = same _ _ refl

-- ---- two lists that differ in at most three of at most 59 places, with the same values at a, a^2 and a^3
module _ (v : Gf1024 → Gf1024) (xs ys : List Gf1024) (same_length : length xs ≡ length ys) (few : length xs ≤ 59)
    (sparse : Sparse.Sparse (element 0) 3 (Sparse.difference laws xs ys))
    (at_2 : at (element 2) (v (element 2)) xs ≡ at (element 2) (v (element 2)) ys)
    (at_4 : at (element 4) (v (element 4)) xs ≡ at (element 4) (v (element 4)) ys)
    (at_8 : at (element 8) (v (element 8)) xs ≡ at (element 8) (v (element 8)) ys) where
  abbrev gap : List Gf1024
  gap = Sparse.difference laws xs ys

  root : (x : Gf1024) → at x (v x) xs ≡ at x (v x) ys → at x (element 0) gap ≡ element 0
  root x e =
      ap (λ y. at x y gap) (sym (laws.sum_self (v x)))
      ∙ Sparse.after-difference laws x (v x) (v x) xs ys same_length
      ∙ ap (λ y. sum y (at x (v x) ys)) e
      ∙ laws.sum_self (at x (v x) ys)

  roots : (j : ℕ) → j < 3 → at (pow (element 2) (suc j)) (element 0) gap ≡ element 0
  roots zero h = ap (λ x. at x (element 0) gap) first_power ∙ root (element 2) at_2
  roots (suc zero) h = ap (λ x. at x (element 0) gap) square ∙ root (element 4) at_4
  roots (suc (suc zero)) h = ap (λ x. at x (element 0) gap) cube ∙ root (element 8) at_8
  roots (suc (suc (suc j))) h = absurd (omega arith)

  pub no_difference : xs ≡ ys
  no_difference =
      let n : length gap ≡ length xs = Sparse.length-difference laws xs ys same_length in
      Sparse.no_difference laws xs ys same_length
      (Sparse.roots_zero laws (element 2) gap sparse
      (Sparse.distinct_places laws (element 2) a-not-zero one_not_zero 59 order (length gap) (omega arith))
      (Sparse.other_places laws (element 2) a-not-zero one_not_zero (length gap))
      roots)
