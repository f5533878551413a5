-- Arrays whose elements a closure gave, each from its index or from the element of another array; and chunks.
use Rattle.std.proofs.Common.{◌≡◌, ℕ, zero, suc, ◌+◌, ◌*◌, ◌<◌, ◌≤◌, List, map, length, get_or, take, drop, refl, sym, ap, subst, ◌∙◌, inl, inr, arith}
use Rattle.std.specs.List.{range_with_len}
use Rattle.std.specs.Simd.{first_chunks}
use Rattle.std.specs.Array.{IsFromFnResult, IsFromFnResultFrom, IsMapOf, MapsFrom}
use Rattle.std.proofs.lemmas.Bool.{cases_lt}
use Rattle.std.proofs.lemmas.List.{ext_get_or, length-map, get_or-map, drop-drop}
use Rattle.std.proofs.lemmas.List.FromFn.{fill_by_all}
use denote.Param.Members.{Mut, Called}

module _ {F : Type 0} (g : Mut F (ℕ × Unit {0}) ℕ) (f : F) (h : ℕ → ℕ) (step : (x y : ℕ) (q : F) → Called g f (x, tt) y q → (q ≡ f) × (y ≡ h x)) where
  made_from : (ys : List ℕ) (i n : ℕ) (p : F) → p ≡ f → IsFromFnResultFrom g p ys i n → (k : ℕ) → i ≤ k → k < i + n → get_or ys k 0 ≡ h k
  made_from ys i zero p e made k lo hi = absurd (omega arith)
  made_from ys i (suc n) p e made k lo hi =
      let done = step i made.1 made.0 (subst (λ s. Called g s (i, tt) made.1 made.0) e made.3) in
      elim (cases_lt i k) [
        | inl lt ↦ made_from ys (i + 1) n made.0 done.0 made.4 k (omega arith) (omega arith)
        | inr le ↦ let at : k ≡ i = omega arith in ap (λ j. get_or ys j 0) at ∙ made.2.1 0 ∙ done.1 ∙ sym (ap h at)
      ]

  -- each element is h of its index
  pub made_by : (ys : List ℕ) (n : ℕ) → IsFromFnResult g f ys n → ys ≡ map h (range_with_len 0 n)
  made_by ys n made = fill_by_all h ys n 0 made.long (λ k lt. made_from ys 0 n f refl made.each k (omega arith) (omega arith))

  maps_from : (xs ys : List ℕ) (i n : ℕ) (p : F) → p ≡ f → MapsFrom g p xs ys i n → (k : ℕ) → i ≤ k → k < i + n → get_or ys k 0 ≡ h (get_or xs k 0)
  maps_from xs ys i zero p e made k lo hi = absurd (omega arith)
  maps_from xs ys i (suc n) p e made k lo hi =
      let done = step made.1 made.2 made.0 (subst (λ s. Called g s (made.1, tt) made.2 made.0) e made.5) in
      elim (cases_lt i k) [
        | inl lt ↦ maps_from xs ys (i + 1) n made.0 done.0 made.6 k (omega arith) (omega arith)
        | inr le ↦ let at : k ≡ i = omega arith in ap (λ j. get_or ys j 0) at ∙ made.4.1 0 ∙ done.1 ∙ ap h (sym (made.3.1 0)) ∙ sym (ap (λ j. h (get_or xs j 0)) at)
      ]

  -- each element is h of that of the other array
  pub maps_by : (xs ys : List ℕ) (n : ℕ) → length xs ≡ n → IsMapOf g f xs ys n → ys ≡ map h xs
  maps_by xs ys n long made =
      ext_get_or 0 ys (map h xs) (made.long ∙ sym (length-map xs h ∙ long))
      (λ k lt. maps_from xs ys 0 n f refl made.each k (omega arith) (omega (arith, made.long)) ∙ sym (get_or-map h xs k 0 0 (omega (arith, made.long))))

-- the chunk i of some elements
pub chunk_at : {X : Type 0} (n k : ℕ) (xs : List X) (i : ℕ) (d : List X) → i < k → get_or (first_chunks n k xs) i d ≡ take n (drop (n * i) xs)
chunk_at n zero xs i d h = absurd (omega arith)
chunk_at n (suc k) xs zero d h = let none : 0 ≡ n * 0 = omega arith in ap (λ j. take n (drop j xs)) none
chunk_at n (suc k) xs (suc i) d h =
    let at : n + n * i ≡ n * suc i = omega arith in
    chunk_at n k (drop n xs) i d (omega arith) ∙ ap (take n) (drop-drop (n * i) n xs ∙ ap (λ j. drop j xs) at)
