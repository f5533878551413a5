-- Horner's rule gives the value of a polynomial.
use Rattle.std.proofs.Common.{◌≡◌, ℕ, ◌+◌, ◌<◌, ◌≤◌, List, [], ◌∷◌, length, get_or, drop, Option, sym, refl, ap, ◌∙◌, ap₂, add-one, arith, drop-cons}
use Rattle.std.specs.List.{fold}
use lib.Seq.{drop-length}
use Rattle.field.specs.Laws.{Laws}
use Rattle.field.specs.Polynomial.{power, value_at}
use Rattle.field.proofs.FieldRing as Ring

-- the value at x of `value`, followed by the coefficients
abbrev pub after : {F : Type 0} → (F → F → F) → (F → F → F) → F → F → List F → F
after sum product x = fold (λ value c. sum c (product x value))

-- one coefficient more, from the product and the sum
pub after-step : {F : Type 0} (sum product : F → F → F) (x value c times plus : F) (cs : List F) → times ≡ product x value → plus ≡ sum c times
    → after sum product x value (c ∷ cs) ≡ after sum product x plus cs
after-step sum product x value c times plus cs t p = ap (λ y. after sum product x y cs) (sym (p ∙ ap (sum c) t))

module _ {F : Type 0} {zeroF one : F} {◌⊕◌ ◌⊗◌ : F → F → F} {inverse : F → Option F} (law : Laws zeroF one ◌⊕◌ ◌⊗◌ inverse) where
  infixl 60 ◌⊕◌
  infixl 70 ◌⊗◌
  pub after-value : (x first : F) (cs : List F) → after ◌⊕◌ ◌⊗◌ x first cs ≡ value_at zeroF one ◌⊕◌ ◌⊗◌ x (first ∷ cs)
  after-value x first [] = sym (law.sum_zero _ ∙ law.product_one first)
  after-value x first (c ∷ cs) =
      let p = power one ◌⊗◌ x (length cs) in
      let v = value_at zeroF one ◌⊕◌ ◌⊗◌ x cs in
      after-value x (c ⊕ (x ⊗ first)) cs
      ∙ ap (λ y. y ⊕ v) (Ring.distributes_r law c (x ⊗ first) p ∙ law.sum_comm (c ⊗ p) ((x ⊗ first) ⊗ p))
      ∙ law.sum_assoc ((x ⊗ first) ⊗ p) (c ⊗ p) v
      ∙ ap (λ y. y ⊕ ((c ⊗ p) ⊕ v)) (ap (λ y. y ⊗ p) (law.product_comm x first) ∙ law.product_assoc first x p)

  -- from no coefficient at all
  pub from_zero : (x : F) (cs : List F) → after ◌⊕◌ ◌⊗◌ x zeroF cs ≡ value_at zeroF one ◌⊕◌ ◌⊗◌ x cs
  from_zero x [] = refl
  from_zero x (c ∷ cs) =
      ap (λ y. after ◌⊕◌ ◌⊗◌ x y cs) (ap (λ y. c ⊕ y) (Ring.times_zero law x) ∙ law.sum_zero c) ∙ after-value x c cs

-- ---- a slice from a place on
pub next : {A : Type 0} (l : List A) (i : ℕ) (p : A) → i < length l → p ≡ get_or l i p → drop i l ≡ p ∷ drop (i + 1) l
next l i p h e = drop-cons l i p h ∙ ap₂ ◌∷◌ (sym e) (ap (λ n. drop n l) (sym (add-one i)))

pub finished : {A : Type 0} (l : List A) (i : ℕ) → i ≤ length l → length l ≤ i → drop i l ≡ []
finished l i h k = let e : i ≡ length l = omega arith in ap (λ n. drop n l) e ∙ drop-length l
