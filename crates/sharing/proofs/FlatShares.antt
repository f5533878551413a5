-- Shares whose values stand one after the other.
use Rattle.std.proofs.Common.{◌≡◌, ℕ, zero, suc, ◌+◌, ◌*◌, ◌<◌, ◌≤◌, List, [], ◌∷◌, ◌++◌, map, length, get_or, take, drop, set, sym, refl, ap, ◌∙◌, subst, ap₂, suc-mul, add_comm, zero-mul, arith, length-drop, length-take}
use Rattle.std.specs.List.{AllByRecursion}
use Rattle.field.specs.Interpolation.{Distinct}
use Rattle.digest.specs.Keyed.{Bytes}
use Rattle.sharing.specs.Curves.{Share, Shares}
use Rattle.std.proofs.lemmas.List.{get_or-map, get_or-take, get_or-drop, drop-drop, take_more_set, take_more, take_all}
use Rattle.field.specs.declared.gf256.Gf256.{Gf256}
use Rattle.field.specs.declared.interpolation.point.Point.{Point}
use Rattle.field.specs.Gf256.{element}
use Rattle.field.specs.Gf256Laws.{same, value-element}
use Rattle.sharing.specs.Values.{shares_of, points_at}

pub length-shares : (n : ℕ) (xs values : List ℕ) → length (shares_of n xs values) ≡ length xs
length-shares n [] values = refl
length-shares n (x ∷ xs) values = ap suc (length-shares n xs (drop n values))

pub places_of : (n : ℕ) (xs values : List ℕ) → map (λ s. s.x) (shares_of n xs values) ≡ xs
places_of n [] values = refl
places_of n (x ∷ xs) values = ap (λ l. x ∷ l) (places_of n xs (drop n values))

pub shares-places : (P : ℕ → Type 0) (n : ℕ) (xs values : List ℕ) → AllByRecursion P xs → AllByRecursion (λ s. P s.x) (shares_of n xs values)
shares-places P n [] values all = tt
shares-places P n (x ∷ xs) values all = (all.0, shares-places P n xs (drop n values) all.1)

pub bytes_take : (n : ℕ) (xs : List ℕ) → Bytes xs → Bytes (take n xs)
bytes_take zero xs h = tt
bytes_take (suc n) [] h = tt
bytes_take (suc n) (x ∷ xs) h = (h.0, bytes_take n xs h.1)

pub bytes_drop : (n : ℕ) (xs : List ℕ) → Bytes xs → Bytes (drop n xs)
bytes_drop zero xs h = h
bytes_drop (suc n) [] h = tt
bytes_drop (suc n) (x ∷ xs) h = bytes_drop n xs h.1

shares-bytes : (n : ℕ) (xs values : List ℕ) → Bytes values → AllByRecursion (λ s. Bytes s.value) (shares_of n xs values)
shares-bytes n [] values h = tt
shares-bytes n (x ∷ xs) values h = (bytes_take n values h, shares-bytes n xs (drop n values) (bytes_drop n values h))

pub shares-lengths : (n : ℕ) (xs values : List ℕ) → length xs * n ≤ length values → AllByRecursion (λ s. length s.value ≡ n) (shares_of n xs values)
shares-lengths n [] values h = tt
shares-lengths n (x ∷ xs) values h =
    let m : suc (length xs) * n ≡ length xs * n + n = suc-mul (length xs) n in
    (omega (arith, length-take n values), shares-lengths n xs (drop n values) (omega (arith, length-drop n values)))

pub sound_shares : (n : ℕ) (xs values : List ℕ) → Distinct xs → AllByRecursion (λ x. x < 256) xs → Bytes values → length xs * n ≤ length values → Shares n (shares_of n xs values)
sound_shares n xs values d small bytes h =
    record {
      distinct = subst Distinct (sym (places_of n xs values)) d;
      places = shares-places (λ x. x < 256) n xs values small;
      lengths = shares-lengths n xs values h;
      bytes = shares-bytes n xs values bytes;
    }

-- ---- the points at one byte position
share_at : (n : ℕ) (xs values : List ℕ) (i : ℕ) (d : Share) → i < length xs
    → get_or (shares_of n xs values) i d ≡ record { x = get_or xs i 0; value = take n (drop (i * n) values) }
share_at n [] values i d h = absurd (omega arith)
share_at n (x ∷ xs) values zero d h = ap (λ k. record { x = x; value = take n (drop k values) }) (sym (zero-mul n))
share_at n (x ∷ xs) values (suc i) d h =
    share_at n xs (drop n values) i d (omega arith)
    ∙ ap (λ l. record { x = get_or xs i 0; value = take n l }) (drop-drop (i * n) n values ∙ ap (λ k. drop k values) (add_comm n (i * n) ∙ sym (suc-mul i n)))

pub point_at : (n : ℕ) (xs values : List ℕ) (i j : ℕ) (d : Point Gf256) → i < length xs → j < n
    → get_or (points_at j (shares_of n xs values)) i d ≡ record { x = element (get_or xs i 0); y = element (get_or values (i * n + j) 0) }
point_at n xs values i j d h hj =
    let e : Share = record { x = 0; value = [] } in
    get_or-map (λ s. record { x = element s.x; y = element (get_or s.value j 0) }) (shares_of n xs values) i e d
    (subst (λ k. i < k) (sym (length-shares n xs values)) h)
    ∙ ap (λ s. record { x = element s.x; y = element (get_or s.value j 0) }) (share_at n xs values i e h)
    ∙ ap (λ b. record { x = element (get_or xs i 0); y = element b }) (get_or-take n (drop (i * n) values) j 0 hj ∙ get_or-drop (i * n) values j 0)

pub length-points : (j n : ℕ) (xs values : List ℕ) → length (points_at j (shares_of n xs values)) ≡ length xs
length-points j n [] values = refl
length-points j n (x ∷ xs) values = ap suc (length-points j n xs (drop n values))

-- an element by its value
pub by_value : (a : Gf256) (b : ℕ) → b < 256 → a.value ≡ b → a ≡ element b
by_value a b h e = same a (element b) (e ∙ sym (value-element b h))

pub points_more : (n : ℕ) (xs values : List ℕ) (i j : ℕ) (points : List (Point Gf256)) (a b : Gf256) → i < length xs → j < n → i < length points
    → get_or xs i 0 < 256 → get_or values (i * n + j) 0 < 256 → a.value ≡ get_or xs i 0 → b.value ≡ get_or values (i * n + j) 0
    → take i points ≡ take i (points_at j (shares_of n xs values))
    → take (i + 1) (set points i (record { x = a; y = b })) ≡ take (i + 1) (points_at j (shares_of n xs values))
points_more n xs values i j points a b h hj hp small-x small-y is_x is_y inv =
    let d : Point Gf256 = record { x = a; y = b } in
    let all = points_at j (shares_of n xs values) in
    take_more_set points i d hp
    ∙ ap₂ (λ l p. l ++ (p ∷ [])) inv (ap₂ (λ u v. record { x = u; y = v }) (by_value a _ small-x is_x) (by_value b _ small-y is_y) ∙ sym (point_at n xs values i j d h hj))
    ∙ sym (take_more all i d (subst (λ k. i < k) (sym (length-points j n xs values)) h))

pub points_all : (n : ℕ) (xs values : List ℕ) (i j : ℕ) (points : List (Point Gf256)) → length xs ≤ i → length points ≡ length xs
    → take i points ≡ take i (points_at j (shares_of n xs values)) → points ≡ points_at j (shares_of n xs values)
points_all n xs values i j points h k inv =
    let m : length (points_at j (shares_of n xs values)) ≡ length xs = length-points j n xs values in
    sym (take_all i points (omega arith)) ∙ inv ∙ take_all i (points_at j (shares_of n xs values)) (omega arith)
