-- A polynomial with at most n coefficients other than 0 and the roots a, a^2, .. a^n is 0.
use Rattle.std.proofs.Common.{◌≡◌, ℕ, zero, suc, ◌+◌, ◌-◌, ◌<◌, ◌≤◌, List, [], ◌∷◌, length, Option, sym, refl, ap, ◌∙◌, ap₂, le_of_eq, not-suc-le-zero, suc-add, zero-add, arith}
use native.Mathlib.Nat.{suc_inj}
use Rattle.std.specs.List.{AllByRecursion}
use Rattle.field.specs.Interpolation.{Distinct}
use Rattle.field.specs.Laws.{Laws}
use Rattle.field.specs.Polynomial.{power}
use Rattle.field.proofs.FieldRing as Ring
use Rattle.field.proofs.Horner.{after}

-- at most n of the list's elements are not 0
pub data Sparse {F : Type 0} (zeroF : F) : ℕ → List F → Type 0 where
  none : {n : ℕ} → Sparse zeroF n []
  skip : {n : ℕ} {e : F} {es : List F} → e ≡ zeroF → Sparse zeroF n es → Sparse zeroF n (e ∷ es)
  other : {n : ℕ} {e : F} {es : List F} → Sparse zeroF n es → Sparse zeroF (suc n) (e ∷ es)

module _ {F : Type 0} {zeroF one : F} {◌⊕◌ ◌⊗◌ : F → F → F} {inverse : F → Option F} (law : Laws zeroF one ◌⊕◌ ◌⊗◌ inverse) where
  infixl 60 ◌⊕◌
  infixl 70 ◌⊗◌
  abbrev pub pow : F → ℕ → F
  pow = power one ◌⊗◌

  -- (a b)^j = a^j b^j
  pub power-product : (a b : F) (j : ℕ) → pow (a ⊗ b) j ≡ (pow a j ⊗ pow b j)
  power-product a b zero = sym (law.product_one one)
  power-product a b (suc j) =
      ap (λ y. (a ⊗ b) ⊗ y) (power-product a b j)
      ∙ law.product_assoc a b (pow a j ⊗ pow b j)
      ∙ ap (λ y. a ⊗ y) (Ring.left_comm law b (pow a j) (pow b j))
      ∙ sym (law.product_assoc a (pow a j) (b ⊗ pow b j))

  pub power-one : (j : ℕ) → pow one j ≡ one
  power-one zero = refl
  power-one (suc j) = law.product_comm one (pow one j) ∙ law.product_one (pow one j) ∙ power-one j

  -- the sum of e z^j
  pub moment : ℕ → List F → List F → F
  moment j [] es = zeroF
  moment j (z ∷ zs) [] = zeroF
  moment j (z ∷ zs) (e ∷ es) = (e ⊗ pow z j) ⊕ moment j zs es

  -- each e times (z + w)
  scaled : F → List F → List F → List F
  scaled w [] es = es
  scaled w (z ∷ zs) [] = []
  scaled w (z ∷ zs) (e ∷ es) = (e ⊗ (z ⊕ w)) ∷ scaled w zs es

  length-scaled : (w : F) (zs es : List F) → length (scaled w zs es) ≡ length es
  unfolding scaled
  length-scaled w [] es = refl
  length-scaled w (z ∷ zs) [] = refl
  length-scaled w (z ∷ zs) (e ∷ es) = ap suc (length-scaled w zs es)

  sparse_scaled : (w : F) (zs : List F) {n : ℕ} {es : List F} → Sparse zeroF n es → Sparse zeroF n (scaled w zs es)
  unfolding scaled
  sparse_scaled w [] s = s
  sparse_scaled w (z ∷ zs) none = none
  sparse_scaled w (z ∷ zs) (skip h s) = skip (ap (λ y. y ⊗ (z ⊕ w)) h ∙ Ring.zero_times law (z ⊕ w)) (sparse_scaled w zs s)
  sparse_scaled w (z ∷ zs) (other s) = other (sparse_scaled w zs s)

  -- e (z + w) z^j = e z^(j+1) + w (e z^j)
  one-scaled : (e z w p : F) → ((e ⊗ (z ⊕ w)) ⊗ p) ≡ ((e ⊗ (z ⊗ p)) ⊕ (w ⊗ (e ⊗ p)))
  one-scaled e z w p =
      law.product_assoc e (z ⊕ w) p
      ∙ ap (λ y. e ⊗ y) (Ring.distributes_r law z w p)
      ∙ law.distributes e (z ⊗ p) (w ⊗ p)
      ∙ ap (λ y. (e ⊗ (z ⊗ p)) ⊕ y) (Ring.left_comm law e w p)

  moment_scaled : (j : ℕ) (w : F) (zs es : List F) → moment j zs (scaled w zs es) ≡ (moment (suc j) zs es ⊕ (w ⊗ moment j zs es))
  unfolding moment scaled
  moment_scaled j w [] es = sym (Ring.zero_sum law (w ⊗ zeroF) ∙ Ring.times_zero law w)
  moment_scaled j w (z ∷ zs) [] = sym (Ring.zero_sum law (w ⊗ zeroF) ∙ Ring.times_zero law w)
  moment_scaled j w (z ∷ zs) (e ∷ es) =
      ap₂ ◌⊕◌ (one-scaled e z w (pow z j)) (moment_scaled j w zs es)
      ∙ Ring.swap_mid law (e ⊗ (z ⊗ pow z j)) (w ⊗ (e ⊗ pow z j)) (moment (suc j) zs es) (w ⊗ moment j zs es)
      ∙ ap (λ y. ((e ⊗ (z ⊗ pow z j)) ⊕ moment (suc j) zs es) ⊕ y) (sym (law.distributes w (e ⊗ pow z j) (moment j zs es)))

  -- the terms at w's own place cancel
  cancels : (e w p m n : F) → ((e ⊗ (w ⊗ p)) ⊕ m) ≡ zeroF → ((e ⊗ p) ⊕ n) ≡ zeroF → (m ⊕ (w ⊗ n)) ≡ zeroF
  cancels e w p m n hm hn =
      ap₂ (λ x y. x ⊕ (w ⊗ y)) (sym (Ring.equal law (e ⊗ (w ⊗ p)) m hm)) (sym (Ring.equal law (e ⊗ p) n hn))
      ∙ ap (λ y. y ⊕ (w ⊗ (e ⊗ p))) (Ring.left_comm law e w p)
      ∙ law.sum_self (w ⊗ (e ⊗ p))

  unscaled : (w : F) (zs es : List F) → length es ≡ length zs → AllByRecursion (λ z. z ≡ w → ⊥) zs → AllByRecursion (λ e. e ≡ zeroF) (scaled w zs es) → AllByRecursion (λ e. e ≡ zeroF) es
  unfolding scaled
  unscaled w [] es n far all = all
  unscaled w (z ∷ zs) [] n far all = tt
  unscaled w (z ∷ zs) (e ∷ es) n far all =
      (Ring.cancel law (z ⊕ w) e (Ring.apart law z w far.0) (law.product_comm (z ⊕ w) e ∙ all.0), unscaled w zs es (suc_inj n) far.1 all.1)

  moment_zero : (j : ℕ) (zs es : List F) → AllByRecursion (λ e. e ≡ zeroF) es → moment j zs es ≡ zeroF
  unfolding moment
  moment_zero j [] es all = refl
  moment_zero j (z ∷ zs) [] all = refl
  moment_zero j (z ∷ zs) (e ∷ es) all =
      ap₂ ◌⊕◌ (ap (λ y. y ⊗ pow z j) all.0 ∙ Ring.zero_times law (pow z j)) (moment_zero j zs es all.1) ∙ law.sum_zero zeroF

  pub all-zero : {n : ℕ} (zs es : List F) → length es ≡ length zs → Sparse zeroF n es → Distinct zs → AllByRecursion (λ z. z ≡ zeroF → ⊥) zs
      → ((j : ℕ) → j < n → moment (suc j) zs es ≡ zeroF) → AllByRecursion (λ e. e ≡ zeroF) es
  unfolding moment
  all-zero [] [] l s d far m = tt
  all-zero [] (e ∷ es) l s d far m = absurd (not-suc-le-zero (le_of_eq l))
  all-zero (z ∷ zs) [] l s d far m = tt
  all-zero (z ∷ zs) (e ∷ es) l (skip h s) d far m = (
    h,
    all-zero zs es (suc_inj l) s d.1 far.1
        (λ j k. sym (Ring.zero_sum law (moment (suc j) zs es)) ∙ ap (λ y. y ⊕ moment (suc j) zs es) (sym (ap (λ y. y ⊗ pow z (suc j)) h ∙ Ring.zero_times law (pow z (suc j)))) ∙ m j k),
  )
  all-zero (z ∷ zs) (e ∷ es) l (other s) d far m =
      let rest : AllByRecursion (λ x. x ≡ zeroF) es =
      unscaled z zs es (suc_inj l) d.0
      (all-zero zs (scaled z zs es) (length-scaled z zs es ∙ suc_inj l) (sparse_scaled z zs s) d.1 far.1
      (λ j k. moment_scaled (suc j) z zs es
      ∙ cancels e z (pow z (suc j)) (moment (suc (suc j)) zs es) (moment (suc j) zs es) (m (suc j) (omega arith)) (m j (omega arith)))) in
      let first : (e ⊗ pow z 1) ≡ zeroF =
      sym (law.sum_zero (e ⊗ pow z 1)) ∙ ap (λ y. (e ⊗ pow z 1) ⊕ y) (sym (moment_zero 1 zs es rest)) ∙ m 0 (omega arith) in
      (Ring.cancel law z e far.0 (law.product_comm z e ∙ ap (λ y. e ⊗ y) (sym (law.product_one z)) ∙ first), rest)

  -- ---- coefficients, the highest first, at the powers of a
  abbrev pub places : F → ℕ → List F
  places a zero = []
  places a (suc n) = pow a n ∷ places a n

  pub length-places : (a : F) (n : ℕ) → length (places a n) ≡ n
  length-places a zero = refl
  length-places a (suc n) = ap suc (length-places a n)

  abbrev at : F → F → List F → F
  at = after ◌⊕◌ ◌⊗◌

  after-moment : (a : F) (j : ℕ) (acc : F) (es : List F)
      → at (pow a j) acc es ≡ ((acc ⊗ pow (pow a (length es)) j) ⊕ moment j (places a (length es)) es)
  unfolding moment
  after-moment a j acc [] = sym (law.sum_zero _ ∙ ap (λ y. acc ⊗ y) (power-one j) ∙ law.product_one acc)
  after-moment a j acc (e ∷ es) =
      let x = pow a j in
      let p = pow (pow a (length es)) j in
      let m = moment j (places a (length es)) es in
      after-moment a j (e ⊕ (x ⊗ acc)) es
      ∙ ap (λ y. y ⊕ m) (Ring.distributes_r law e (x ⊗ acc) p ∙ law.sum_comm (e ⊗ p) ((x ⊗ acc) ⊗ p))
      ∙ law.sum_assoc ((x ⊗ acc) ⊗ p) (e ⊗ p) m
      ∙ ap (λ y. y ⊕ ((e ⊗ p) ⊕ m))
      (ap (λ y. y ⊗ p) (law.product_comm x acc) ∙ law.product_assoc acc x p ∙ ap (λ y. acc ⊗ y) (sym (power-product a (pow a (length es)) j)))

  pub roots_zero : (a : F) {n : ℕ} (es : List F) → Sparse zeroF n es → Distinct (places a (length es)) → AllByRecursion (λ z. z ≡ zeroF → ⊥) (places a (length es))
      → ((j : ℕ) → j < n → at (pow a (suc j)) zeroF es ≡ zeroF) → AllByRecursion (λ e. e ≡ zeroF) es
  roots_zero a es s d far root =
      all-zero (places a (length es)) es (sym (length-places a (length es))) s d far
      (λ j k. sym (Ring.zero_sum law _) ∙ ap (λ y. y ⊕ moment (suc j) (places a (length es)) es) (sym (Ring.zero_times law _)) ∙ sym (after-moment a (suc j) zeroF es) ∙ root j k)

  -- ---- the powers of a are apart
  module _ (a : F) (a-other : a ≡ zeroF → ⊥) (one-other : one ≡ zeroF → ⊥) where
    pub power-other : (n : ℕ) → pow a n ≡ zeroF → ⊥
    power-other zero e = one-other e
    power-other (suc n) e = power-other n (Ring.cancel law a (pow a n) a-other e)

    power-more : (m k : ℕ) → pow a (k + m) ≡ (pow a m ⊗ pow a k)
    power-more m zero = ap (pow a) (zero-add m) ∙ sym (law.product_one (pow a m))
    power-more m (suc k) =
        ap (pow a) (suc-add k m) ∙ ap (λ y. a ⊗ y) (power-more m k) ∙ Ring.left_comm law a (pow a m) (pow a k)

    module _ (top : ℕ) (order : (k : ℕ) → k < top → pow a (suc k) ≡ one → ⊥) where
      power-apart : (m n : ℕ) → m < n → n ≤ top → pow a m ≡ pow a n → ⊥
      power-apart m n h t e =
          let k = n - suc m in
          let split : n ≡ suc k + m = omega arith in
          let p = pow a m in
          let q = pow a (suc k) in
          let same : p ≡ (p ⊗ q) = e ∙ ap (pow a) split ∙ power-more m (suc k) in
          let gone : (p ⊗ (one ⊕ q)) ≡ zeroF =
          law.distributes p one q ∙ ap₂ ◌⊕◌ (law.product_one p) (sym same) ∙ law.sum_self p in
          order k (omega arith) (sym (Ring.equal law one q (Ring.cancel law p (one ⊕ q) (power-other m) gone)))

      far-places : (n m : ℕ) → m ≤ n → n ≤ top → AllByRecursion (λ y. y ≡ pow a n → ⊥) (places a m)
      far-places n zero h t = tt
      far-places n (suc m) h t = ((λ e. power-apart m n h t e), far-places n m (omega arith) t)

      pub distinct_places : (n : ℕ) → n ≤ top → Distinct (places a n)
      distinct_places zero t = tt
      distinct_places (suc n) t = (far-places n n (omega arith) (omega arith), distinct_places n (omega arith))

    pub other_places : (n : ℕ) → AllByRecursion (λ z. z ≡ zeroF → ⊥) (places a n)
    other_places zero = tt
    other_places (suc n) = ((λ e. power-other n e), other_places n)

  -- ---- two lists of coefficients
  abbrev pub difference : List F → List F → List F
  difference [] ys = []
  difference (x ∷ xs) [] = []
  difference (x ∷ xs) (y ∷ ys) = (x ⊕ y) ∷ difference xs ys

  pub length-difference : (xs ys : List F) → length xs ≡ length ys → length (difference xs ys) ≡ length xs
  length-difference [] ys e = refl
  length-difference (x ∷ xs) [] e = absurd (not-suc-le-zero (le_of_eq e))
  length-difference (x ∷ xs) (y ∷ ys) e = ap suc (length-difference xs ys (suc_inj e))

  pub after-difference : (x p q : F) (xs ys : List F) → length xs ≡ length ys → at x (p ⊕ q) (difference xs ys) ≡ (at x p xs ⊕ at x q ys)
  after-difference x p q [] [] e = refl
  after-difference x p q [] (y ∷ ys) e = absurd (not-suc-le-zero (le_of_eq (sym e)))
  after-difference x p q (c ∷ xs) [] e = absurd (not-suc-le-zero (le_of_eq e))
  after-difference x p q (c ∷ xs) (d ∷ ys) e =
      ap (λ v. at x v (difference xs ys)) (ap (λ v. (c ⊕ d) ⊕ v) (law.distributes x p q) ∙ Ring.swap_mid law c d (x ⊗ p) (x ⊗ q))
      ∙ after-difference x (c ⊕ (x ⊗ p)) (d ⊕ (x ⊗ q)) xs ys (suc_inj e)

  pub no_difference : (xs ys : List F) → length xs ≡ length ys → AllByRecursion (λ e. e ≡ zeroF) (difference xs ys) → xs ≡ ys
  no_difference [] [] l all = refl
  no_difference [] (y ∷ ys) l all = absurd (not-suc-le-zero (le_of_eq (sym l)))
  no_difference (x ∷ xs) [] l all = absurd (not-suc-le-zero (le_of_eq l))
  no_difference (x ∷ xs) (y ∷ ys) l all = ap₂ ◌∷◌ (Ring.equal law x y all.0) (no_difference xs ys (suc_inj l) all.1)

-- no list has more elements other than 0 than it has elements
pub sparse_short : {F : Type 0} {zeroF : F} (es : List F) → Sparse zeroF (length es) es
sparse_short [] = none
sparse_short (e ∷ es) = other (sparse_short es)
