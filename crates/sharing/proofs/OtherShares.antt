-- Shares that are tried one by one against given values.
use Rattle.std.proofs.Common.{◌≡◌, ℕ, zero, suc, ◌+◌, ◌-◌, ◌*◌, ◌<◌, ◌≤◌, Bool, true, false, List, [], ◌∷◌, length, get_or, take, drop, Decides, sym, refl, ap, ◌∙◌, subst, mul-le-mul_right, suc-mul, add_comm, zero-mul, add-one, arith, length-drop, length-take}
use Rattle.std.proofs.lemmas.List.{drop-drop, drop_more, drop_all}
use Rattle.sharing.specs.Curves.{Share, On}
use Rattle.sharing.specs.Values.{shares_of, value_through}

module _ (n : ℕ) (f : ℕ → List ℕ) where
  share_on : (xs values : List ℕ) (i : ℕ) → i < length xs → On f (shares_of n xs values) → f (get_or xs i 0) ≡ take n (drop (i * n) values)
  share_on [] values i h on = absurd (omega arith)
  share_on (x ∷ xs) values zero h on = on.0 ∙ ap (λ k. take n (drop k values)) (sym (zero-mul n))
  share_on (x ∷ xs) values (suc i) h on =
      share_on xs (drop n values) i (omega arith) on.1
      ∙ ap (take n) (drop-drop (i * n) n values ∙ ap (λ k. drop k values) (add_comm n (i * n) ∙ sym (suc-mul i n)))

  module _ (xs values : List ℕ) (i : ℕ) (h : i < length xs) (filled : length values ≡ length xs * n) where
    abbrev part : List ℕ
    part = take (i * n + n - i * n) (drop (i * n) values)

    part-is : part ≡ take n (drop (i * n) values)
    part-is = let e : i * n + n - i * n ≡ n = omega arith in ap (λ k. take k (drop (i * n) values)) e

    pub fits_in : i * n + n ≤ length values
    fits_in =
        let m : suc i * n ≤ length xs * n = mul-le-mul_right n h in
        let e : suc i * n ≡ i * n + n = suc-mul i n in
        omega arith

    pub part_length : length part ≡ n
    part_length =
        let m = fits_in in
        ap length part-is ∙ omega (arith, length-take n (drop (i * n) values), length-drop (i * n) values)

    pub not_on : (r : Bool) → Decides r (f (get_or xs i 0) ≡ part) → r ≡ false → Decides false (On f (shares_of n xs values))
    not_on r tells is = (
      (λ e. absurd (let z : ◌≡◌ {A = ℕ} 0 1 = cc in omega arith)),
      λ on. absurd (let t = tells.1 (share_on xs values i h on ∙ sym part-is) in let z : ◌≡◌ {A = ℕ} 0 1 = cc in omega arith),
    )

    pub on_more : (r : Bool) → Decides r (f (get_or xs i 0) ≡ part) → r ≡ true
        → (On f (shares_of n (drop i xs) (drop (i * n) values)) → On f (shares_of n xs values))
        → On f (shares_of n (drop (i + 1) xs) (drop ((i + 1) * n) values)) → On f (shares_of n xs values)
    on_more r tells is inv on =
        let e : (i + 1) * n ≡ i * n + n = ap (λ k. k * n) (add-one i) ∙ suc-mul i n in
        inv (subst (λ l. On f (shares_of n l (drop (i * n) values))) (sym (drop_more xs i 0 h))
        (tells.0 is ∙ part-is, subst (λ l. On f (shares_of n (drop (i + 1) xs) l)) (ap (λ k. drop k values) e ∙ sym (drop-drop n (i * n) values)) on))

  pub on_all : (xs values : List ℕ) (i : ℕ) → length xs ≤ i → (On f (shares_of n (drop i xs) (drop (i * n) values)) → On f (shares_of n xs values))
      → Decides true (On f (shares_of n xs values))
  on_all xs values i h inv = ((λ _. inv (subst (λ l. On f (shares_of n l (drop (i * n) values))) (sym (drop_all i xs h)) tt)), λ _. refl)

-- a test of one value, whose length is known
pub at_length : (m n : ℕ) (shares : ℕ → List Share) (x : ℕ) (part : List ℕ) (r : Bool) → m ≡ n
    → Decides r (value_through m (shares m) x ≡ part) → Decides r (value_through n (shares n) x ≡ part)
at_length m n shares x part r e = subst (λ k. Decides r (value_through k (shares k) x ≡ part)) e
