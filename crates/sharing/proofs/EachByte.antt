-- A list is compared with the values of a function, place by place.
use Rattle.std.proofs.Common.{◌≡◌, ℕ, ◌+◌, [], ◌∷◌, List, Bool, length, map, refl, sym, ap, ap₂, eqb, subst, get_or, drop}
use Rattle.std.specs.Bool.{Decides}
use Rattle.std.specs.List.{list_all, enumerate_from, range_with_len}
use Rattle.std.proofs.lemmas.Bool.Decides.{Decides-and, Decides-eqb}

module _ (f : ℕ → ℕ) where
  abbrev same_from : ℕ → List ℕ → Bool
  same_from i xs = list_all (λ (p : ℕ × ℕ). eqb p.1 (f p.0)) (enumerate_from i xs)

  from-place : (i : ℕ) (xs : List ℕ) → Decides (same_from i xs) (map f (range_with_len i (length xs)) ≡ xs)
  from-place i [] = ((λ _. refl), λ _. refl)
  from-place i (x ∷ xs) =
      let both = Decides-and _ _ (Decides-eqb x (f i)) (from-place (i + 1) xs) in
      ((λ h. let e = both.0 h in ap₂ ◌∷◌ (sym e.0) e.1), λ e. both.1 (ap (λ l. get_or l 0 x) (sym e), ap (drop 1) e))

  pub each-byte : (n : ℕ) (xs : List ℕ) (r : Bool) → length xs ≡ n → r ≡ same_from 0 xs → Decides r (map f (range_with_len 0 n) ≡ xs)
  each-byte n xs r size is =
      subst (λ b. Decides b (map f (range_with_len 0 n) ≡ xs)) (sym is)
      (subst (λ k. Decides (same_from 0 xs) (map f (range_with_len 0 k) ≡ xs)) size (from-place 0 xs))
