-- Shares at distinct places, and lists of places that are distinct, or are not.
use Rattle.std.proofs.Common.{◌≡◌, ℕ, zero, suc, ◌+◌, ◌-◌, ◌<◌, ◌≤◌, Bool, true, false, List, [], ◌∷◌, map, length, get_or, take, drop, Decides, ◌≢◌, sym, refl, ap, ◌∙◌, subst, add-one, arith}
use Rattle.std.specs.List.{ContainsAt as Has, All, AllByRecursion}
use Rattle.std.proofs.ByRecursion.{All-map, all-has, All-from_get_or, has_get_or}
use Rattle.std.proofs.lemmas.List.{take_rest, drop_more, drop_all}
use Rattle.std.proofs.lemmas.List.Elements.{recursion_from_All, All-from_recursion}
use Rattle.field.specs.Interpolation.{Distinct}
use Rattle.sharing.specs.declared.share.Share.{Share as Lent}

pub far_take : {A : Type 0} (f : A → ℕ) (z k : ℕ) (l : List A) → AllByRecursion (λ y. y ≢ z) (map f l) → AllByRecursion (λ y. y ≢ z) (map f (take k l))
far_take f z zero l all = tt
far_take f z (suc k) [] all = tt
far_take f z (suc k) (s ∷ l) all = (all.0, far_take f z k l all.1)

pub distinct_map_take : {A : Type 0} (f : A → ℕ) (k : ℕ) (l : List A) → Distinct (map f l) → Distinct (map f (take k l))
distinct_map_take f zero l d = tt
distinct_map_take f (suc k) [] d = tt
distinct_map_take f (suc k) (s ∷ l) d = (far_take f (f s) k l d.0, distinct_map_take f k l d.1)

of_map : {A : Type 0} (P : ℕ → Type 0) (f : A → ℕ) (l : List A) → AllByRecursion P (map f l) → AllByRecursion (λ s. P (f s)) l
of_map P f [] all = tt
of_map P f (s ∷ l) all = (all.0, of_map P f l all.1)

abbrev places : List Lent → List ℕ
places shares = map (λ s. s.x) shares

module _ (shares : List Lent) (first : Lent) (rest : List Lent) (is : shares ≡ first ∷ rest) (free : Bool)
    (tells : Decides free (All (λ s. s.x ≢ first.x) rest)) where
  pub taken : free ≡ false → Decides free (Distinct (places shares))
  taken none = (
    (λ h. cc),
    λ d. tells.1 (All-from_recursion (λ s. s.x ≢ first.x) rest
        (of_map (λ y. y ≢ first.x) (λ s. s.x) rest (subst (λ l. Distinct (places l)) is d).0)),
  )

  pub others : free ≡ true → (apart : Bool) → Decides apart (Distinct (places rest)) → Decides apart (Distinct (places shares))
  others empty apart rest-tells = (
    (λ a. subst (λ l. Distinct (places l)) (sym is)
        (All-map (λ y. y ≢ first.x) (λ s. s.x) rest (recursion_from_All (λ s. s.x ≢ first.x) rest (tells.0 empty)), rest-tells.0 a)),
    λ d. rest-tells.1 (subst (λ l. Distinct (places l)) is d).1,
  )

-- ---- the places from one on
later_apart : (xs : List ℕ) (i : ℕ) → i < length xs → Distinct xs → AllByRecursion (λ y. y ≡ get_or xs i 0 → ⊥) (drop (suc i) xs)
later_apart [] i h d = tt
later_apart (x ∷ xs) zero h d = d.0
later_apart (x ∷ xs) (suc i) h d = later_apart xs i (omega arith) d.1

module _ (xs : List ℕ) (i : ℕ) (h : i < length xs) where
  abbrev rest : List ℕ
  rest = take (length xs - (i + 1)) (drop (i + 1) xs)

  rest-is : rest ≡ drop (suc i) xs
  rest-is = take_rest xs (i + 1) ∙ ap (λ n. drop n xs) (add-one i)

  pub not_distinct : (r : Bool) → Decides r (Has rest (get_or xs i 0)) → r ≡ true → Decides false (Distinct xs)
  not_distinct r has is = (
    (λ e. absurd (let z : ◌≡◌ {A = ℕ} 0 1 = cc in omega arith)),
    λ d. absurd (all-has (λ y. y ≡ get_or xs i 0 → ⊥) rest (get_or xs i 0) (subst (AllByRecursion (λ y. y ≡ get_or xs i 0 → ⊥)) (sym rest-is) (later_apart xs i h d)) (has.0 is) refl),
  )

  pub one_more : (r : Bool) → Decides r (Has rest (get_or xs i 0)) → r ≡ false → (Distinct (drop i xs) → Distinct xs) → Distinct (drop (i + 1) xs) → Distinct xs
  one_more r has is inv d =
      let nowhere : AllByRecursion (λ y. y ≡ get_or xs i 0 → ⊥) rest = All-from_get_or (λ y. y ≡ get_or xs i 0 → ⊥) rest 0
      (λ k l e. let yes-is = has.1 (subst (Has rest) e (has_get_or rest k 0 l)) in let z : ◌≡◌ {A = ℕ} 0 1 = cc in omega arith) in
      inv (subst Distinct (sym (drop_more xs i 0 h)) (subst (AllByRecursion (λ y. y ≡ get_or xs i 0 → ⊥)) (take_rest xs (i + 1)) nowhere, d))

pub all_done : (xs : List ℕ) (i : ℕ) → length xs ≤ i → (Distinct (drop i xs) → Distinct xs) → Decides true (Distinct xs)
all_done xs i h inv = ((λ _. inv (subst Distinct (sym (drop_all i xs h)) tt)), λ _. refl)
