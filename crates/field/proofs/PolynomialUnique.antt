-- Two polynomials with k coefficients that agree at k distinct places, or more, are the same.
use Rattle.std.proofs.Common.{◌≡◌, ℕ, zero, suc, ◌≤◌, List, [], ◌∷◌, length, Option, sym, refl, ap, ◌∙◌, subst, ap₂, le_of_eq, le_of_suc-le-suc, not-suc-le-zero, arith}
use native.Mathlib.Nat.{suc_inj}
use Rattle.std.specs.List.{AllByRecursion}
use Rattle.field.specs.Laws.{Laws}
use Rattle.field.specs.Polynomial.{value_at}
use Rattle.field.specs.Interpolation.{Distinct}
use Rattle.field.proofs.FieldRing as Ring
use Rattle.field.proofs.Horner as Horner
use Rattle.field.proofs.Horner.{after}
use Rattle.field.proofs.PolynomialRoots as Roots
use Rattle.field.proofs.PolynomialRoots.{line_after}

module _ {F : Type 0} {zeroF one : F} {◌⊕◌ ◌⊗◌ : F → F → F} {inverse : F → Option F} (law : Laws zeroF one ◌⊕◌ ◌⊗◌ inverse) where
  infixl 60 ◌⊕◌
  infixl 70 ◌⊗◌
  abbrev val : F → List F → F
  val x cs = after ◌⊕◌ ◌⊗◌ x zeroF cs

  -- ---- a polynomial with as many roots as coefficients
  quo-roots : (r c : F) (cs zs : List F) → val r (c ∷ cs) ≡ zeroF → AllByRecursion (λ z. z ≡ r → ⊥) zs → AllByRecursion (λ z. val z (c ∷ cs) ≡ zeroF) zs
      → AllByRecursion (λ z. val z (Roots.quo law r zeroF c cs) ≡ zeroF) zs
  quo-roots r c cs [] root far roots = tt
  quo-roots r c cs (z ∷ zs) root far roots =
      let q = Roots.quo law r zeroF c cs in
      let divided : val z (c ∷ cs) ≡ (zeroF ⊕ ((z ⊕ r) ⊗ val z q)) =
      ap (val z) (Roots.divide law r c cs) ∙ Roots.val-line law z r (val r (c ∷ cs)) q ∙ ap (λ y. y ⊕ ((z ⊕ r) ⊗ val z q)) root in
      (Ring.cancel law (z ⊕ r) (val z q) (Ring.apart law z r far.0) (sym (Ring.zero_sum law _) ∙ sym divided ∙ roots.0), quo-roots r c cs zs root far.1 roots.1)

  line-zeros : (r p : F) (q : List F) → p ≡ zeroF → AllByRecursion (λ c. c ≡ zeroF) q → AllByRecursion (λ c. c ≡ zeroF) (line_after ◌⊕◌ ◌⊗◌ r zeroF p q)
  line-zeros r p [] zero-p zeros = (Ring.zero_sum law (r ⊗ p) ∙ ap (λ y. r ⊗ y) zero-p ∙ Ring.times_zero law r, tt)
  line-zeros r p (c ∷ cs) zero-p zeros =
      (ap₂ ◌⊕◌ zeros.0 (ap (λ y. r ⊗ y) zero-p ∙ Ring.times_zero law r) ∙ law.sum_zero zeroF, line-zeros r c cs zeros.0 zeros.1)

  vanishes : (k : ℕ) (cs zs : List F) → length cs ≡ k → k ≤ length zs → Distinct zs → AllByRecursion (λ z. val z cs ≡ zeroF) zs → AllByRecursion (λ c. c ≡ zeroF) cs
  vanishes k [] zs n h distinct roots = tt
  vanishes zero (c ∷ cs) zs n h distinct roots = absurd (not-suc-le-zero (le_of_eq n))
  vanishes (suc k) (c ∷ cs) [] n h distinct roots = absurd (not-suc-le-zero h)
  vanishes (suc k) (c ∷ cs) (r ∷ rs) n h distinct roots =
      let q = Roots.quo law r zeroF c cs in
      let zeros = vanishes k q rs (Roots.length-quo law r zeroF c cs ∙ suc_inj n) (le_of_suc-le-suc h) distinct.1
      (quo-roots r c cs rs roots.0 distinct.0 roots.1) in
      let is : c ∷ cs ≡ line_after ◌⊕◌ ◌⊗◌ r zeroF zeroF q = Roots.divide law r c cs ∙ ap (λ e. line_after ◌⊕◌ ◌⊗◌ r e zeroF q) roots.0 in
      subst (AllByRecursion (λ c. c ≡ zeroF)) (sym is) (line-zeros r zeroF q refl zeros)

  -- ---- the sum of two polynomials with as many coefficients
  unfoldable pub add : List F → List F → List F
  add [] ds = []
  add (c ∷ cs) [] = []
  add (c ∷ cs) (d ∷ ds) = (c ⊕ d) ∷ add cs ds

  pub length-add : (cs ds : List F) → length cs ≡ length ds → length (add cs ds) ≡ length cs
  unfolding add
  length-add [] ds n = refl
  length-add (c ∷ cs) [] n = absurd (omega arith)
  length-add (c ∷ cs) (d ∷ ds) n = ap suc (length-add cs ds (suc_inj n))

  after-add : (x a b : F) (cs ds : List F) → length cs ≡ length ds
      → after ◌⊕◌ ◌⊗◌ x (a ⊕ b) (add cs ds) ≡ (after ◌⊕◌ ◌⊗◌ x a cs ⊕ after ◌⊕◌ ◌⊗◌ x b ds)
  unfolding add
  after-add x a b [] [] n = refl
  after-add x a b [] (d ∷ ds) n = absurd (omega arith)
  after-add x a b (c ∷ cs) [] n = absurd (omega arith)
  after-add x a b (c ∷ cs) (d ∷ ds) n =
      ap (λ y. after ◌⊕◌ ◌⊗◌ x y (add cs ds)) (ap (λ y. (c ⊕ d) ⊕ y) (law.distributes x a b) ∙ Ring.swap_mid law c d (x ⊗ a) (x ⊗ b))
      ∙ after-add x (c ⊕ (x ⊗ a)) (d ⊕ (x ⊗ b)) cs ds (suc_inj n)

  pub val-add : (x : F) (cs ds : List F) → length cs ≡ length ds → val x (add cs ds) ≡ (val x cs ⊕ val x ds)
  val-add x cs ds n = ap (λ y. after ◌⊕◌ ◌⊗◌ x y (add cs ds)) (sym (law.sum_zero zeroF)) ∙ after-add x zeroF zeroF cs ds n

  add-zeros : (cs ds : List F) → length cs ≡ length ds → AllByRecursion (λ c. c ≡ zeroF) (add cs ds) → cs ≡ ds
  unfolding add
  add-zeros [] [] n zeros = refl
  add-zeros [] (d ∷ ds) n zeros = absurd (omega arith)
  add-zeros (c ∷ cs) [] n zeros = absurd (omega arith)
  add-zeros (c ∷ cs) (d ∷ ds) n zeros = ap₂ ◌∷◌ (Ring.equal law c d zeros.0) (add-zeros cs ds (suc_inj n) zeros.1)

  meet : (cs ds zs : List F) → length cs ≡ length ds → AllByRecursion (λ z. val z cs ≡ val z ds) zs → AllByRecursion (λ z. val z (add cs ds) ≡ zeroF) zs
  meet cs ds [] n same = tt
  meet cs ds (z ∷ zs) n same = (val-add z cs ds n ∙ ap (λ y. y ⊕ val z ds) same.0 ∙ law.sum_self (val z ds), meet cs ds zs n same.1)

  to_val : (cs ds zs : List F) → AllByRecursion (λ z. value_at zeroF one ◌⊕◌ ◌⊗◌ z cs ≡ value_at zeroF one ◌⊕◌ ◌⊗◌ z ds) zs → AllByRecursion (λ z. val z cs ≡ val z ds) zs
  to_val cs ds [] same = tt
  to_val cs ds (z ∷ zs) same = (Horner.from_zero law z cs ∙ same.0 ∙ sym (Horner.from_zero law z ds), to_val cs ds zs same.1)

  pub unique : (cs ds zs : List F) → length cs ≡ length ds → length cs ≤ length zs → Distinct zs
      → AllByRecursion (λ z. value_at zeroF one ◌⊕◌ ◌⊗◌ z cs ≡ value_at zeroF one ◌⊕◌ ◌⊗◌ z ds) zs → cs ≡ ds
  unique cs ds zs n h distinct same =
      add-zeros cs ds n (vanishes (length cs) (add cs ds) zs (length-add cs ds n) h distinct (meet cs ds zs n (to_val cs ds zs same)))
