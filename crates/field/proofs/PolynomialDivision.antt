-- Long division by x^3 + g2 x^2 + g1 x + g0 keeps the value at each of its roots.
use Rattle.std.proofs.Common.{◌≡◌, ℕ, suc, List, [], ◌∷◌, map, length, Option, sym, refl, ap, ◌∙◌, ap₂}
use Rattle.field.specs.Laws.{Laws}
use Rattle.field.specs.Polynomial.{add_front, divide_steps}
use Rattle.field.proofs.FieldRing as Ring
use Rattle.field.proofs.Horner.{after}
use Rattle.field.proofs.SparsePolynomial as Sparse

module _ {F : Type 0} {zeroF one : F} {◌⊕◌ ◌⊗◌ : F → F → F} {inverse : F → Option F} (law : Laws zeroF one ◌⊕◌ ◌⊗◌ inverse) where
  infixl 60 ◌⊕◌
  infixl 70 ◌⊗◌
  abbrev at : F → F → List F → F
  at = after ◌⊕◌ ◌⊗◌

  abbrev steps : List F → ℕ → List F → List F
  steps = divide_steps ◌⊕◌ ◌⊗◌

  -- ---- a first coefficient that is 0
  add-zeros : (cs ds : List F) → add_front ◌⊕◌ cs (map (λ d. zeroF ⊗ d) ds) ≡ cs
  add-zeros cs [] = refl
  add-zeros [] (d ∷ ds) = refl
  add-zeros (c ∷ cs) (d ∷ ds) = ap₂ ◌∷◌ (ap (λ y. c ⊕ y) (Ring.zero_times law d) ∙ law.sum_zero c) (add-zeros cs ds)

  pub steps-zero : (g : F) (gs : List F) (n : ℕ) (cs : List F) → steps (g ∷ gs) (suc n) (zeroF ∷ cs) ≡ steps (g ∷ gs) n cs
  steps-zero g gs n cs = ap (steps (g ∷ gs) n) (add-zeros cs gs)

  -- ---- the value at x of p x^2 + q x + r
  abbrev pub quad : F → F → F → F → F
  quad x p q r = r ⊕ (x ⊗ (q ⊕ (x ⊗ p)))

  quad-sum : (x p q r p' q' r' : F) → quad x (p ⊕ p') (q ⊕ q') (r ⊕ r') ≡ (quad x p q r ⊕ quad x p' q' r')
  quad-sum x p q r p' q' r' =
      ap (λ y. (r ⊕ r') ⊕ (x ⊗ ((q ⊕ q') ⊕ y))) (law.distributes x p p')
      ∙ ap (λ y. (r ⊕ r') ⊕ (x ⊗ y)) (Ring.swap_mid law q q' (x ⊗ p) (x ⊗ p'))
      ∙ ap (λ y. (r ⊕ r') ⊕ y) (law.distributes x (q ⊕ (x ⊗ p)) (q' ⊕ (x ⊗ p')))
      ∙ Ring.swap_mid law r r' (x ⊗ (q ⊕ (x ⊗ p))) (x ⊗ (q' ⊕ (x ⊗ p')))

  quad-scale : (x h p q r : F) → quad x (h ⊗ p) (h ⊗ q) (h ⊗ r) ≡ (h ⊗ quad x p q r)
  quad-scale x h p q r =
      ap (λ y. (h ⊗ r) ⊕ (x ⊗ ((h ⊗ q) ⊕ y))) (Ring.left_comm law x h p)
      ∙ ap (λ y. (h ⊗ r) ⊕ (x ⊗ y)) (sym (law.distributes h q (x ⊗ p)))
      ∙ ap (λ y. (h ⊗ r) ⊕ y) (Ring.left_comm law x h (q ⊕ (x ⊗ p)))
      ∙ sym (law.distributes h r (x ⊗ (q ⊕ (x ⊗ p))))

  pub quad_at : (x p q r : F) (cs : List F) → at x zeroF (p ∷ q ∷ r ∷ cs) ≡ at x (quad x p q r) cs
  quad_at x p q r cs = ap (λ y. at x (r ⊕ (x ⊗ (q ⊕ (x ⊗ y)))) cs) (ap (λ y. p ⊕ y) (Ring.times_zero law x) ∙ law.sum_zero p)

  -- three coefficients stay
  pub three-left : (g g2 g1 g0 p q r : F) (cs : List F)
      → (u : F) × (v : F) × (w : F) × (steps (g ∷ g2 ∷ g1 ∷ g0 ∷ []) (length cs) (p ∷ q ∷ r ∷ cs) ≡ u ∷ v ∷ w ∷ [])
  three-left g g2 g1 g0 p q r [] = (p, q, r, refl)
  three-left g g2 g1 g0 p q r (c ∷ cs) = three-left g g2 g1 g0 (q ⊕ (p ⊗ g2)) (r ⊕ (p ⊗ g1)) (c ⊕ (p ⊗ g0)) cs

  module _ (x g g2 g1 g0 : F) (root : quad x g2 g1 g0 ≡ (x ⊗ (x ⊗ x))) where
    abbrev divisor : List F
    divisor = g ∷ g2 ∷ g1 ∷ g0 ∷ []

    step : (p q r c : F) → quad x (q ⊕ (p ⊗ g2)) (r ⊕ (p ⊗ g1)) (c ⊕ (p ⊗ g0)) ≡ (c ⊕ (x ⊗ quad x p q r))
    step p q r c =
        quad-sum x q r c (p ⊗ g2) (p ⊗ g1) (p ⊗ g0)
        ∙ ap (λ y. quad x q r c ⊕ y) (quad-scale x p g2 g1 g0 ∙ ap (λ y. p ⊗ y) root ∙ rotate)
        ∙ law.sum_assoc c (x ⊗ (r ⊕ (x ⊗ q))) (x ⊗ (x ⊗ (x ⊗ p)))
        ∙ ap (λ y. c ⊕ y)
        (sym (law.distributes x (r ⊕ (x ⊗ q)) (x ⊗ (x ⊗ p)))
        ∙ ap (λ y. x ⊗ y) (law.sum_assoc r (x ⊗ q) (x ⊗ (x ⊗ p)) ∙ ap (λ y. r ⊕ y) (sym (law.distributes x q (x ⊗ p)))))
      where
        rotate : (p ⊗ (x ⊗ (x ⊗ x))) ≡ (x ⊗ (x ⊗ (x ⊗ p)))
        rotate =
            Ring.left_comm law p x (x ⊗ x) ∙ ap (λ y. x ⊗ y) (Ring.left_comm law p x x ∙ ap (λ y. x ⊗ y) (law.product_comm p x))

    pub steps-value : (p q r : F) (cs : List F) → at x zeroF (steps divisor (length cs) (p ∷ q ∷ r ∷ cs)) ≡ at x zeroF (p ∷ q ∷ r ∷ cs)
    steps-value p q r [] = refl
    steps-value p q r (c ∷ cs) =
        steps-value (q ⊕ (p ⊗ g2)) (r ⊕ (p ⊗ g1)) (c ⊕ (p ⊗ g0)) cs
        ∙ quad_at x (q ⊕ (p ⊗ g2)) (r ⊕ (p ⊗ g1)) (c ⊕ (p ⊗ g0)) cs
        ∙ ap (λ y. at x y cs) (step p q r c)
        ∙ sym (quad_at x p q r (c ∷ cs))

  -- p x^2 + q x + r is the value of three zeros after `value`: then p, q and r + e after it have the value e
  pub closes : (x value p q r e : F) → at x zeroF (p ∷ q ∷ r ∷ []) ≡ at x value (zeroF ∷ zeroF ∷ zeroF ∷ []) → at x value (p ∷ q ∷ (r ⊕ e) ∷ []) ≡ e
  closes x value p q r e h =
      ap₂ (λ y l. at x y l) (sym (law.sum_zero value)) (ap₂ ◌∷◌ (sym (Ring.zero_sum law p)) (ap₂ ◌∷◌ (sym (Ring.zero_sum law q)) (ap (λ y. y ∷ []) (sym (Ring.zero_sum law (r ⊕ e))))))
      ∙ Sparse.after-difference law x value zeroF (zeroF ∷ zeroF ∷ zeroF ∷ []) (p ∷ q ∷ (r ⊕ e) ∷ []) refl
      ∙ ap₂ ◌⊕◌ (sym (sym (quad_at x p q r []) ∙ h)) (quad_at x p q (r ⊕ e) [])
      ∙ ap (λ y. quad x p q r ⊕ y) (law.sum_assoc r e w ∙ ap (λ y. r ⊕ y) (law.sum_comm e w) ∙ sym (law.sum_assoc r w e))
      ∙ sym (law.sum_assoc (quad x p q r) (quad x p q r) e)
      ∙ ap (λ y. y ⊕ e) (law.sum_self (quad x p q r)) ∙ Ring.zero_sum law e
    where
      w : F
      w = x ⊗ (q ⊕ (x ⊗ p))
