-- Lagrange's sum over points with distinct x is the value of the only polynomial through them.
use Rattle.std.proofs.Common.{◌≡◌, ℕ, zero, suc, ◌+◌, List, [], ◌∷◌, ◌++◌, length, Option, sym, refl, ap, ◌∙◌, ap₂, le_of_eq, zero-add, arith, length-append}
use lib.ListN.{length-map}
use Rattle.std.specs.List.{AllByRecursion}
use Rattle.std.proofs.ByRecursion.{All-append, All-push}
use Rattle.field.specs.Laws.{Laws}
use Rattle.field.specs.Polynomial.{value_at}
use Rattle.field.specs.declared.interpolation.point.Point.{Point}
use Rattle.field.specs.Interpolation.{Distinct, xs_of, value_or, quotients, lagrange_after, Through, ThePolynomial}
use Rattle.field.proofs.FieldRing as Ring
use Rattle.field.proofs.Horner as Horner
use Rattle.field.proofs.Horner.{after}
use Rattle.field.proofs.PolynomialRoots as Roots
use Rattle.field.proofs.PolynomialRoots.{line_after}
use Rattle.field.proofs.PolynomialUnique as Unique

pub data In {A : Type 0} : A → List A → Type 0 where
  here : {x : A} {xs : List A} → In x (x ∷ xs)
  there : {x y : A} {xs : List A} → In x xs → In x (y ∷ xs)

in_left : {A : Type 0} {x : A} {xs : List A} (ys : List A) → In x xs → In x (xs ++ ys)
in_left ys here = here
in_left ys (there i) = there (in_left ys i)

in_right : {A : Type 0} {x : A} (xs : List A) {ys : List A} → In x ys → In x (xs ++ ys)
in_right [] i = i
in_right (y ∷ xs) i = there (in_right xs i)

pub of_in : {A : Type 0} (P : A → Type 0) (x : A) (xs : List A) → AllByRecursion P xs → In x xs → P x
of_in P x [] all i = elim i [ ]
of_in P x (y ∷ xs) all here = all.0
of_in P x (y ∷ xs) all (there i) = of_in P x xs all.1 i

pub all_in : {A : Type 0} (P : A → Type 0) (xs : List A) → ((x : A) → In x xs → P x) → AllByRecursion P xs
all_in P [] f = tt
all_in P (x ∷ xs) f = (f x here, all_in P xs (λ y i. f y (there i)))

in_xs : {F : Type 0} (p : Point F) (ps : List (Point F)) → In p ps → In p.x (xs_of ps)
in_xs p [] i = elim i [ ]
in_xs p (q ∷ ps) here = here
in_xs p (q ∷ ps) (there i) = there (in_xs p ps i)

module _ {F : Type 0} {zeroF one : F} {◌⊕◌ ◌⊗◌ : F → F → F} {inverse : F → Option F} (law : Laws zeroF one ◌⊕◌ ◌⊗◌ inverse) where
  infixl 60 ◌⊕◌
  infixl 70 ◌⊗◌
  abbrev val : F → List F → F
  val x cs = after ◌⊕◌ ◌⊗◌ x zeroF cs

  abbrev over : F → F
  over b = value_or zeroF (inverse b)

  abbrev Q : F → F → List F → F
  Q = quotients zeroF one ◌⊕◌ ◌⊗◌ inverse

  abbrev L : F → List F → List (Point F) → F
  L = lagrange_after zeroF one ◌⊕◌ ◌⊗◌ inverse

  over-right : (a : F) → (a ≡ zeroF → ⊥) → (a ⊗ over a) ≡ one
  over-right a other = let i = law.inverse_other a other in ap (λ y. a ⊗ y) (ap (value_or zeroF) i.1.0) ∙ i.1.1

  one-times : (a : F) → (one ⊗ a) ≡ a
  one-times a = law.product_comm one a ∙ law.product_one a

  -- ---- the products at the points
  Q-zero : (x xi : F) (xs : List F) → In x xs → Q x xi xs ≡ zeroF
  Q-zero x xi [] i = elim i [ ]
  Q-zero x xi (xj ∷ xs) here =
      ap (λ y. (y ⊗ over (xi ⊕ x)) ⊗ Q x xi xs) (law.sum_self x) ∙ ap (λ y. y ⊗ Q x xi xs) (Ring.zero_times law (over (xi ⊕ x))) ∙ Ring.zero_times law (Q x xi xs)
  Q-zero x xi (xj ∷ xs) (there i) =
      ap (λ y. ((x ⊕ xj) ⊗ over (xi ⊕ xj)) ⊗ y) (Q-zero x xi xs i) ∙ Ring.times_zero law _

  Q-one : (x : F) (xs : List F) → AllByRecursion (λ y. y ≡ x → ⊥) xs → Q x x xs ≡ one
  Q-one x [] far = refl
  Q-one x (xj ∷ xs) far =
      ap₂ ◌⊗◌ (over-right (x ⊕ xj) (Ring.apart law x xj (λ e. far.0 (sym e)))) (Q-one x xs far.1) ∙ law.product_one one

  L-zero : (z : F) (before : List F) (ps : List (Point F)) → In z before → L z before ps ≡ zeroF
  L-zero z before [] i = refl
  L-zero z before (p ∷ ps) i =
      ap₂ ◌⊕◌ (ap (λ y. p.y ⊗ y) (Q-zero z p.x (before ++ xs_of ps) (in_left (xs_of ps) i)) ∙ Ring.times_zero law p.y)
      (L-zero z (before ++ (p.x ∷ [])) ps (in_left (p.x ∷ []) i))
      ∙ law.sum_zero zeroF

  L-hit : (p : Point F) (before : List F) (ps : List (Point F)) → AllByRecursion (λ y. y ≡ p.x → ⊥) before → Distinct (xs_of ps) → In p ps → L p.x before ps ≡ p.y
  L-hit p before [] far distinct i = elim i [ ]
  L-hit p before (q ∷ ps) far distinct here =
      ap₂ ◌⊕◌ (ap (λ y. p.y ⊗ y) (Q-one p.x (before ++ xs_of ps) (All-append (λ y. y ≡ p.x → ⊥) before (xs_of ps) far distinct.0)) ∙ law.product_one p.y)
      (L-zero p.x (before ++ (p.x ∷ [])) ps (in_right before here))
      ∙ law.sum_zero p.y
  L-hit p before (q ∷ ps) far distinct (there i) =
      ap₂ ◌⊕◌ (ap (λ y. q.y ⊗ y) (Q-zero p.x q.x (before ++ xs_of ps) (in_right before (in_xs p ps i))) ∙ Ring.times_zero law q.y)
      (L-hit p (before ++ (q.x ∷ [])) ps
      (All-push (λ y. y ≡ p.x → ⊥) before q.x far (λ e. of_in (λ y. y ≡ q.x → ⊥) p.x (xs_of ps) distinct.0 (in_xs p ps i) (sym e))) distinct.1 i)
      ∙ Ring.zero_sum law p.y

  -- ---- functions that are polynomials with k coefficients
  record Poly (k : ℕ) (f : F → F) : Type 0 where
    pub cs : List F
    pub size : length cs ≡ k
    pub is : (x : F) → val x cs ≡ f x

  zeros : ℕ → List F
  zeros zero = []
  zeros (suc k) = zeroF ∷ zeros k

  poly-zero : (k : ℕ) → Poly k (λ _. zeroF)
  unfolding zeros
  poly-zero k = record { cs = zeros k; size = len k; is = is_zero k }
    where
      len : (k : ℕ) → length (zeros k) ≡ k
      len zero = refl
      len (suc k) = ap suc (len k)

      is_zero : (k : ℕ) (x : F) → val x (zeros k) ≡ zeroF
      is_zero zero x = refl
      is_zero (suc k) x = ap (λ y. after ◌⊕◌ ◌⊗◌ x y (zeros k)) (Ring.zero_sum law _ ∙ Ring.times_zero law x) ∙ is_zero k x

  poly-constant : (y : F) → Poly 1 (λ _. y)
  poly-constant y = record { cs = y ∷ []; size = refl; is = λ x. ap (λ t. y ⊕ t) (Ring.times_zero law x) ∙ law.sum_zero y }

  poly-sum : (k : ℕ) (f g : F → F) → Poly k f → Poly k g → Poly k (λ x. f x ⊕ g x)
  poly-sum k f g p q =
      let n : length p.cs ≡ length q.cs = p.size ∙ sym q.size in
      record {
        cs = Unique.add law p.cs q.cs;
        size = Unique.length-add law p.cs q.cs n ∙ p.size;
        is = λ x. Unique.val-add law x p.cs q.cs n ∙ ap₂ ◌⊕◌ (p.is x) (q.is x);
      }

  scale : F → List F → List F
  scale v [] = []
  scale v (c ∷ cs) = (v ⊗ c) ∷ scale v cs

  length-scale : (v : F) (cs : List F) → length (scale v cs) ≡ length cs
  unfolding scale
  length-scale v [] = refl
  length-scale v (c ∷ cs) = ap suc (length-scale v cs)

  after-scale : (v x a : F) (cs : List F) → after ◌⊕◌ ◌⊗◌ x (v ⊗ a) (scale v cs) ≡ (v ⊗ after ◌⊕◌ ◌⊗◌ x a cs)
  unfolding scale
  after-scale v x a [] = refl
  after-scale v x a (c ∷ cs) =
      ap (λ y. after ◌⊕◌ ◌⊗◌ x y (scale v cs)) (ap (λ y. (v ⊗ c) ⊕ y) (Ring.left_comm law x v a) ∙ sym (law.distributes v c (x ⊗ a)))
      ∙ after-scale v x (c ⊕ (x ⊗ a)) cs

  poly-scale : (k : ℕ) (f : F → F) (v : F) → Poly k f → Poly k (λ x. v ⊗ f x)
  poly-scale k f v p =
      record {
        cs = scale v p.cs;
        size = length-scale v p.cs ∙ p.size;
        is = λ x. ap (λ y. after ◌⊕◌ ◌⊗◌ x y (scale v p.cs)) (sym (Ring.times_zero law v)) ∙ after-scale v x zeroF p.cs ∙ ap (λ y. v ⊗ y) (p.is x);
      }

  length-line : (r e p : F) (q : List F) → length (line_after ◌⊕◌ ◌⊗◌ r e p q) ≡ suc (length q)
  length-line r e p [] = refl
  length-line r e p (c ∷ cs) = ap suc (length-line r e c cs)

  poly-root : (k : ℕ) (f : F → F) (r : F) → Poly k f → Poly (suc k) (λ x. (x ⊕ r) ⊗ f x)
  poly-root k f r p =
      record {
        cs = line_after ◌⊕◌ ◌⊗◌ r zeroF zeroF p.cs;
        size = length-line r zeroF zeroF p.cs ∙ ap suc p.size;
        is = λ x. Roots.val-line law x r zeroF p.cs ∙ Ring.zero_sum law _ ∙ ap (λ y. (x ⊕ r) ⊗ y) (p.is x);
      }

  rename : (k m : ℕ) (f g : F → F) → k ≡ m → ((x : F) → f x ≡ g x) → Poly k f → Poly m g
  rename k m f g e same p = record { cs = p.cs; size = p.size ∙ e; is = λ x. p.is x ∙ same x }

  poly-Q : (xi : F) (xs : List F) → Poly (suc (length xs)) (λ x. Q x xi xs)
  poly-Q xi [] = poly-constant one
  poly-Q xi (xj ∷ xs) =
      rename (suc (suc (length xs))) (suc (suc (length xs))) _ _ refl
      (λ x. sym (law.product_assoc (x ⊕ xj) (over (xi ⊕ xj)) (Q x xi xs)))
      (poly-root (suc (length xs)) (λ x. over (xi ⊕ xj) ⊗ Q x xi xs) xj (poly-scale (suc (length xs)) (λ x. Q x xi xs) (over (xi ⊕ xj)) (poly-Q xi xs)))

  poly-L : (before : List F) (ps : List (Point F)) → Poly (length before + length ps) (λ x. L x before ps)
  poly-L before [] = poly-zero (length before + 0)
  poly-L before (p ∷ ps) =
      let n : length (xs_of ps) ≡ length ps = length-map ps (λ q. q.x) in
      let m : length (before ++ (p.x ∷ [])) ≡ length before + 1 = length-append before (p.x ∷ []) in
      let o : length (before ++ xs_of ps) ≡ length before + length (xs_of ps) = length-append before (xs_of ps) in
      poly-sum (length before + length (p ∷ ps)) (λ x. p.y ⊗ Q x p.x (before ++ xs_of ps)) (λ x. L x (before ++ (p.x ∷ [])) ps)
      (poly-scale (length before + length (p ∷ ps)) (λ x. Q x p.x (before ++ xs_of ps)) p.y
      (rename (suc (length (before ++ xs_of ps))) _ _ _ (omega arith) (λ x. refl) (poly-Q p.x (before ++ xs_of ps))))
      (rename (length (before ++ (p.x ∷ [])) + length ps) _ _ _ (omega arith) (λ x. refl) (poly-L (before ++ (p.x ∷ [])) ps))

  -- ---- the polynomial
  abbrev at : F → List F → F
  at x cs = value_at zeroF one ◌⊕◌ ◌⊗◌ x cs

  all-xs : (P : F → Type 0) (ps : List (Point F)) → AllByRecursion (λ p. P p.x) ps → AllByRecursion P (xs_of ps)
  all-xs P [] all = tt
  all-xs P (p ∷ ps) all = (all.0, all-xs P ps all.1)

  pub both : (cs ds : List F) (ps : List (Point F)) → Through zeroF one ◌⊕◌ ◌⊗◌ inverse cs ps → Through zeroF one ◌⊕◌ ◌⊗◌ inverse ds ps
      → AllByRecursion (λ z. at z cs ≡ at z ds) (xs_of ps)
  both cs ds [] a b = tt
  both cs ds (p ∷ ps) a b = (a.0 ∙ sym b.0, both cs ds ps a.1 b.1)

  pub the-polynomial : (ps : List (Point F)) → Distinct (xs_of ps) → (cs : List F) × ThePolynomial zeroF one ◌⊕◌ ◌⊗◌ inverse ps cs
  the-polynomial ps distinct =
      let p = poly-L [] ps in
      let is : (x : F) → at x p.cs ≡ L x [] ps = λ x. sym (Horner.from_zero law x p.cs) ∙ p.is x in
      let size : length p.cs ≡ length ps = p.size ∙ zero-add (length ps) in
      let through = all_in (λ q. at q.x p.cs ≡ q.y) ps (λ q i. is q.x ∙ L-hit q [] ps tt distinct i) in
      let n : length (xs_of ps) ≡ length ps = length-map ps (λ q. q.x) in (
        p.cs,
        record {
          degree = size;
          through = through;
          only = λ ds m t. Unique.unique law ds p.cs (xs_of ps) (m ∙ sym size) (le_of_eq (m ∙ sym n)) distinct (both ds p.cs ps t through);
          value = λ x. sym (is x);
        },
      )
