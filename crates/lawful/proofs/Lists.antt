-- Lists: what holds of each element of a filtered or mapped list, and distinct numbers.
use Rattle.std.proofs.Common.{◌≡◌, ℕ, zero, suc, ◌+◌, ◌<◌, ◌≤◌, Bool, true, ◌⊎◌, List, [], ◌∷◌, map, length, filter, refl, ap, subst, inl, inr, arith}
use Rattle.std.specs.List.{range_with_len, AllByRecursion}
use Rattle.std.specs.Int.Digits.{AllBelowBase}
use Rattle.std.proofs.ByRecursion.{all_kept_by}
use Rattle.std.proofs.lemmas.Bool.{cond_both, both_ways}
use Rattle.field.specs.Interpolation.{Distinct}
use Rattle.field.proofs.Lagrange.{In, here, there}
use Rattle.digest.specs.Keyed.{Bytes}

pub all_of_map : {A B : Type 0} (P : B → Type 0) (f : A → B) (xs : List A) → AllByRecursion P (map f xs) → AllByRecursion (λ a. P (f a)) xs
all_of_map P f [] all = tt
all_of_map P f (x ∷ xs) all = (all.0, all_of_map P f xs all.1)

pub all_join : {A : Type 0} (P Q R : A → Type 0) → ((x : A) → P x → Q x → R x) → (xs : List A) → AllByRecursion P xs → AllByRecursion Q xs → AllByRecursion R xs
all_join P Q R f [] p q = tt
all_join P Q R f (x ∷ xs) p q = (f x p.0 q.0, all_join P Q R f xs p.1 q.1)

pub map-map : {A B C : Type 0} (f : A → B) (g : B → C) (xs : List A) → map g (map f xs) ≡ map (λ a. g (f a)) xs
map-map f g [] = refl
map-map f g (x ∷ xs) = ap (λ l. g (f x) ∷ l) (map-map f g xs)

pub map_same : {A : Type 0} (xs : List A) → map (λ a. a) xs ≡ xs
map_same [] = refl
map_same (x ∷ xs) = ap (λ l. x ∷ l) (map_same xs)

-- an element that passes is kept
pub in_kept : {A : Type 0} (test : A → Bool) (x : A) (xs : List A) → In x xs → test x ≡ true → In x (filter test xs)
in_kept test x [] i t = elim i [ ]
in_kept test x (y ∷ xs) here t = cond_both (test x) (x ∷ filter test xs) (filter test xs) (In x) (λ _. here) (λ f. absurd (both_ways (test x) f t))
in_kept test x (y ∷ xs) (there i) t =
    cond_both (test y) (y ∷ filter test xs) (filter test xs) (In x) (λ _. there (in_kept test x xs i t)) (λ _. in_kept test x xs i t)

pub some_in : {A : Type 0} (xs : List A) (x : A) → In x xs → 1 ≤ length xs
some_in [] x i = elim i [ ]
some_in (y ∷ xs) x i = omega arith

-- ---- numbers in a row
pub in_counting : (a k x : ℕ) → a ≤ x → x < a + k → In x (range_with_len a k)
in_counting a zero x l h = absurd (omega arith)
in_counting a (suc k) x l h = elim (first a x l) [
  | inl e ↦ subst (λ z. In z (a ∷ range_with_len (a + 1) k)) e here
  | inr m ↦ there (in_counting (a + 1) k x (omega arith) (omega arith))
]
  where
    first : (a x : ℕ) → a ≤ x → (a ≡ x) ⊎ (a + 1 ≤ x)
    first a x l = grind arith

pub distinct_kept : (test : ℕ → Bool) (xs : List ℕ) → Distinct xs → Distinct (filter test xs)
distinct_kept test [] d = tt
distinct_kept test (x ∷ xs) d =
    cond_both (test x) (x ∷ filter test xs) (filter test xs) Distinct
    (λ _. (all_kept_by test (λ y. y ≡ x → ⊥) xs d.0, distinct_kept test xs d.1)) (λ _. distinct_kept test xs d.1)

-- ---- bytes
pub bytes-under : (xs : List ℕ) → AllBelowBase 256 xs → Bytes xs
bytes-under [] h = tt
bytes-under (x ∷ xs) h = (h.0, bytes-under xs h.1)

pub under-bytes : (xs : List ℕ) → Bytes xs → AllBelowBase 256 xs
under-bytes [] h = tt
under-bytes (x ∷ xs) h = (h.0, under-bytes xs h.1)
