-- A polynomial is (x - r)(x - s)(x - t)·q + e exactly when its values at r, s and t are e.
use Rattle.std.proofs.Common.{◌≡◌, suc, List, [], ◌∷◌, ◌++◌, map, length, Option, sym, refl, ap, ◌∙◌, ap₂}
use Rattle.field.specs.Laws.{Laws}
use Rattle.field.specs.Polynomial.{add_front, times_root, plus_constant}
use Rattle.field.proofs.FieldRing as Ring
use Rattle.field.proofs.Horner.{after}

-- (x - r)·q + e, where the coefficient before those of q is p
abbrev pub line_after : {F : Type 0} → (F → F → F) → (F → F → F) → F → F → F → List F → List F
line_after sum product r e p [] = sum e (product r p) ∷ []
line_after sum product r e p (c ∷ cs) = sum c (product r p) ∷ line_after sum product r e c cs

module _ {F : Type 0} {zeroF one : F} {◌⊕◌ ◌⊗◌ : F → F → F} {inverse : F → Option F} (law : Laws zeroF one ◌⊕◌ ◌⊗◌ inverse) where
  infixl 60 ◌⊕◌
  infixl 70 ◌⊗◌
  abbrev at : F → F → List F → F
  at = after ◌⊕◌ ◌⊗◌

  abbrev val : F → List F → F
  val x cs = at x zeroF cs

  abbrev lin : F → F → List F → List F
  lin r e q = line_after ◌⊕◌ ◌⊗◌ r e zeroF q

  -- ---- (x - r)·q and + e
  times-line : (r p : F) (q : List F) → add_front ◌⊕◌ (q ++ (zeroF ∷ [])) ((r ⊗ p) ∷ map (λ c. r ⊗ c) q) ≡ line_after ◌⊕◌ ◌⊗◌ r zeroF p q
  times-line r p [] = refl
  times-line r p (c ∷ cs) = ap (λ l. (c ⊕ (r ⊗ p)) ∷ l) (times-line r c cs)

  times_root-line : (r : F) (q : List F) → times_root zeroF ◌⊕◌ ◌⊗◌ r q ≡ lin r zeroF q
  times_root-line r q = ap (λ y. add_front ◌⊕◌ (q ++ (zeroF ∷ [])) (y ∷ map (λ c. r ⊗ c) q)) (sym (Ring.times_zero law r)) ∙ times-line r zeroF q

  plus-line : (r e p : F) (q : List F) → plus_constant ◌⊕◌ e (line_after ◌⊕◌ ◌⊗◌ r zeroF p q) ≡ line_after ◌⊕◌ ◌⊗◌ r e p q
  plus-line r e p [] = ap (λ y. y ∷ []) (ap (λ y. y ⊕ e) (Ring.zero_sum law (r ⊗ p)) ∙ law.sum_comm (r ⊗ p) e)
  plus-line r e p (c ∷ []) = ap (λ l. (c ⊕ (r ⊗ p)) ∷ l) (plus-line r e c [])
  plus-line r e p (c ∷ d ∷ ds) = ap (λ l. (c ⊕ (r ⊗ p)) ∷ l) (plus-line r e c (d ∷ ds))

  turn : (x r p o acc c : F) → acc ≡ (p ⊕ (x ⊗ o)) → ((c ⊕ (r ⊗ p)) ⊕ (x ⊗ (acc ⊕ (r ⊗ o)))) ≡ ((c ⊕ (x ⊗ acc)) ⊕ (r ⊗ acc))
  turn x r p o acc c h =
      ap (λ y. (c ⊕ (r ⊗ p)) ⊕ y) (law.distributes x acc (r ⊗ o))
      ∙ Ring.swap_mid law c (r ⊗ p) (x ⊗ acc) (x ⊗ (r ⊗ o))
      ∙ ap (λ y. (c ⊕ (x ⊗ acc)) ⊕ y)
      (ap (λ y. (r ⊗ p) ⊕ y) (Ring.left_comm law x r o) ∙ sym (law.distributes r p (x ⊗ o)) ∙ ap (λ y. r ⊗ y) (sym h))

  -- the value so far on (x + r)·q + e is that on q, and r times the one before it
  line-after : (x r e p o acc : F) (cs : List F) → acc ≡ (p ⊕ (x ⊗ o))
      → at x (acc ⊕ (r ⊗ o)) (line_after ◌⊕◌ ◌⊗◌ r e p cs) ≡ (e ⊕ ((x ⊕ r) ⊗ at x acc cs))
  line-after x r e p o acc [] h =
      turn x r p o acc e h ∙ law.sum_assoc e (x ⊗ acc) (r ⊗ acc) ∙ ap (λ y. e ⊕ y) (sym (Ring.distributes_r law x r acc))
  line-after x r e p o acc (c ∷ cs) h =
      ap (λ y. at x y (line_after ◌⊕◌ ◌⊗◌ r e c cs)) (turn x r p o acc c h) ∙ line-after x r e c acc (c ⊕ (x ⊗ acc)) cs refl

  pub val-line : (x r e : F) (q : List F) → val x (lin r e q) ≡ (e ⊕ ((x ⊕ r) ⊗ val x q))
  val-line x r e q =
      ap (λ y. at x y (lin r e q)) (sym (law.sum_zero zeroF) ∙ ap (λ y. zeroF ⊕ y) (sym (Ring.times_zero law r)))
      ∙ line-after x r e zeroF zeroF zeroF q (sym (Ring.zero_sum law (x ⊗ zeroF) ∙ Ring.times_zero law x))

  -- ---- division
  unfoldable pub quo : F → F → F → List F → List F
  quo r p c [] = []
  quo r p c (d ∷ ds) = (c ⊕ (r ⊗ p)) ∷ quo r (c ⊕ (r ⊗ p)) d ds

  divide-after : (r p c : F) (cs : List F) → c ∷ cs ≡ line_after ◌⊕◌ ◌⊗◌ r (at r p (c ∷ cs)) p (quo r p c cs)
  unfolding quo
  divide-after r p c [] = ap (λ y. y ∷ []) (sym (Ring.sum_back law c (r ⊗ p)))
  divide-after r p c (d ∷ ds) = ap₂ ◌∷◌ (sym (Ring.sum_back law c (r ⊗ p))) (divide-after r (c ⊕ (r ⊗ p)) d ds)

  pub length-quo : (r p c : F) (cs : List F) → length (quo r p c cs) ≡ length cs
  unfolding quo
  length-quo r p c [] = refl
  length-quo r p c (d ∷ ds) = ap suc (length-quo r (c ⊕ (r ⊗ p)) d ds)

  pub divide : (r c : F) (cs : List F) → c ∷ cs ≡ lin r (val r (c ∷ cs)) (quo r zeroF c cs)
  divide r c cs = divide-after r zeroF c cs

  -- ---- three roots
  module _ (r s t : F) where
    abbrev three : F → List F → List F
    three e q = lin r e (lin s zeroF (lin t zeroF q))

    abbrev times_three : F → List F → List F
    times_three e q = plus_constant ◌⊕◌ e (times_root zeroF ◌⊕◌ ◌⊗◌ r (times_root zeroF ◌⊕◌ ◌⊗◌ s (times_root zeroF ◌⊕◌ ◌⊗◌ t q)))

    three-is : (e : F) (q : List F) → times_three e q ≡ three e q
    three-is e q =
        ap (λ l. plus_constant ◌⊕◌ e (times_root zeroF ◌⊕◌ ◌⊗◌ r l))
        (ap (times_root zeroF ◌⊕◌ ◌⊗◌ s) (times_root-line t q) ∙ times_root-line s (lin t zeroF q))
        ∙ ap (plus_constant ◌⊕◌ e) (times_root-line r (lin s zeroF (lin t zeroF q)))
        ∙ plus-line r e zeroF (lin s zeroF (lin t zeroF q))

    self : (e y : F) (x : F) → (e ⊕ ((x ⊕ x) ⊗ y)) ≡ e
    self e y x = ap (λ z. e ⊕ (z ⊗ y)) (law.sum_self x) ∙ ap (λ z. e ⊕ z) (Ring.zero_times law y) ∙ law.sum_zero e

    over : (e y z : F) → z ≡ zeroF → (e ⊕ (y ⊗ z)) ≡ e
    over e y z h = ap (λ u. e ⊕ (y ⊗ u)) h ∙ ap (λ u. e ⊕ u) (Ring.times_zero law y) ∙ law.sum_zero e

    line-r : (e : F) (q : List F) → val r (three e q) ≡ e
    line-r e q = val-line r r e (lin s zeroF (lin t zeroF q)) ∙ self e (val r (lin s zeroF (lin t zeroF q))) r

    line-s : (e : F) (q : List F) → val s (three e q) ≡ e
    line-s e q =
        val-line s r e (lin s zeroF (lin t zeroF q))
        ∙ over e (s ⊕ r) (val s (lin s zeroF (lin t zeroF q))) (val-line s s zeroF (lin t zeroF q) ∙ self zeroF (val s (lin t zeroF q)) s)

    line-t : (e : F) (q : List F) → val t (three e q) ≡ e
    line-t e q =
        val-line t r e (lin s zeroF (lin t zeroF q))
        ∙ over e (t ⊕ r) (val t (lin s zeroF (lin t zeroF q)))
        (val-line t s zeroF (lin t zeroF q) ∙ over zeroF (t ⊕ s) (val t (lin t zeroF q)) (val-line t t zeroF q ∙ self zeroF (val t q) t))

    pub value-r : (e : F) (q : List F) → val r (times_three e q) ≡ e
    value-r e q = ap (val r) (three-is e q) ∙ line-r e q

    pub value-s : (e : F) (q : List F) → val s (times_three e q) ≡ e
    value-s e q = ap (val s) (three-is e q) ∙ line-s e q

    pub value-t : (e : F) (q : List F) → val t (times_three e q) ≡ e
    value-t e q = ap (val t) (three-is e q) ∙ line-t e q

    -- e + (x + y)·v = e, and x is not y: v is 0
    undo : (e v x y : F) → (x ≡ y → ⊥) → (e ⊕ ((x ⊕ y) ⊗ v)) ≡ e → v ≡ zeroF
    undo e v x y n h =
        Ring.cancel law (x ⊕ y) v (Ring.apart law x y n)
        (sym (Ring.sum_back law ((x ⊕ y) ⊗ v) e) ∙ ap (λ z. z ⊕ e) (law.sum_comm ((x ⊕ y) ⊗ v) e ∙ h) ∙ law.sum_self e)

    pub divided : (e a b c : F) (cs : List F) → (s ≡ r → ⊥) → (t ≡ r → ⊥) → (t ≡ s → ⊥)
        → val r (a ∷ b ∷ c ∷ cs) ≡ e → val s (a ∷ b ∷ c ∷ cs) ≡ e → val t (a ∷ b ∷ c ∷ cs) ≡ e
        → (q : List F) × (a ∷ b ∷ c ∷ cs ≡ times_three e q)
    unfolding quo
    divided e a b c cs sr tr ts hr hs ht =
        let p = a ∷ b ∷ c ∷ cs in
        let q1 = quo r zeroF a (b ∷ c ∷ cs) in
        let a1 = a ⊕ (r ⊗ zeroF) in
        let b1 = b ⊕ (r ⊗ a1) in
        let q2 = quo s zeroF a1 (quo r a1 b (c ∷ cs)) in
        let a2 = a1 ⊕ (s ⊗ zeroF) in
        let q3 = quo t zeroF a2 (quo s a2 b1 (quo r b1 c cs)) in
        let e1 : p ≡ lin r e q1 = divide r a (b ∷ c ∷ cs) ∙ ap (λ v. lin r v q1) hr in
        let v2 : val s q1 ≡ zeroF = undo e (val s q1) s r sr (sym (val-line s r e q1) ∙ ap (val s) (sym e1) ∙ hs) in
        let e2 : q1 ≡ lin s zeroF q2 = divide s a1 (quo r a1 b (c ∷ cs)) ∙ ap (λ v. lin s v q2) v2 in
        let w3 : val t q1 ≡ zeroF = undo e (val t q1) t r tr (sym (val-line t r e q1) ∙ ap (val t) (sym e1) ∙ ht) in
        let v3 : val t q2 ≡ zeroF = undo zeroF (val t q2) t s ts (sym (val-line t s zeroF q2) ∙ ap (val t) (sym e2) ∙ w3) in
        let e3 : q2 ≡ lin t zeroF q3 = divide t a2 (quo s a2 b1 (quo r b1 c cs)) ∙ ap (λ v. lin t v q3) v3 in
        (q3, e1 ∙ ap (lin r e) (e2 ∙ ap (lin s zeroF) e3) ∙ sym (three-is e q3))
