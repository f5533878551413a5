-- The shares that fix a dealt curve.
use Rattle.std.proofs.Common.{◌≡◌, ℕ, zero, suc, ◌+◌, ◌-◌, ◌*◌, ◌<◌, ◌≤◌, true, false, cond, leb, List, [], ◌∷◌, ◌++◌, map, length, take, drop, set, sym, refl, ap, ◌∙◌, subst, ap₂, le_of_eq, add-zero, suc-mul, zero-mul, arith, append_assoc, length-append, length-drop, length-set}
use Rattle.std.specs.List.{range_with_len, AllByRecursion}
use Rattle.std.proofs.ByRecursion.{All-append}
use Rattle.std.proofs.lemmas.List.{append-nil, map-append, take_more_set, take_all, take_at, take-append-le, drop_at, drop-append-le, take-take, drop-take}
use Rattle.std.proofs.lemmas.Bool.Decides.{nat_tests}
use Rattle.std.proofs.lemmas.List.FromFn.{length-range_with_len}
use Rattle.field.specs.Interpolation.{Distinct}
use Rattle.sharing.specs.Curves.{Share}
use Rattle.sharing.specs.declared.share.Share.{Share as Lent}
use Rattle.sharing.specs.Values.{lent, plain, shares_of, value_through, Sound, chosen_shares, dealt_value}
use Rattle.sharing.proofs.FlatShares as Flat
use Rattle.sharing.proofs.LentShares.{plain-places, of_plain}
use Rattle.sharing.proofs.CurveTheorems.{distinct_ends, distinct_counting, all-counting-low}

-- ---- the loop over the values drawn: `left` values of n bytes stand in the rest
some_left : (left n : ℕ) (rest : List ℕ) → 1 ≤ n → n ≤ length rest → length rest ≡ left * n → 1 ≤ left
some_left zero n rest h k e = absurd (let z : 0 * n ≡ 0 = zero-mul n in omega arith)
some_left (suc left) n rest h k e = omega arith

none_left : (left n : ℕ) (rest : List ℕ) → length rest < n → length rest ≡ left * n → left ≡ 0
none_left zero n rest h e = refl
none_left (suc left) n rest h e = absurd (let m : suc left * n ≡ left * n + n = suc-mul left n in omega arith)

module _ (n total k : ℕ) (rest value others : List ℕ) (least : 1 ≤ n) (size : length value ≡ n) (is : rest ≡ value ++ others)
    (left : length rest ≡ (total - k) * n) where
  more : total - k ≡ suc (total - (k + 1))
  more = let h = some_left (total - k) n rest least (omega (arith, ap length is, length-append value others)) left in omega arith

  pub low : k + 1 ≤ total
  low = let m = more in omega arith

  pub left_after : length others ≡ (total - (k + 1)) * n
  left_after =
      let m : (total - k) * n ≡ (total - (k + 1)) * n + n = ap (λ j. j * n) more ∙ suc-mul (total - (k + 1)) n in
      omega (arith, ap length is, length-append value others)

  pub one_drawn : (shares : List Lent) (s : Lent) (all : List Share) → k < length shares → s.x ≡ k → s.value.now ≡ value
      → all ≡ plain (take k shares) ++ shares_of n (range_with_len k (total - k)) rest
      → all ≡ plain (take (k + 1) (set shares k s)) ++ shares_of n (range_with_len (k + 1) (total - (k + 1))) others
  one_drawn shares s all h ex ev inv =
      inv
      ∙ ap (λ l. plain (take k shares) ++ l)
      (ap₂ (λ j l. shares_of n (range_with_len k j) l) more is
      ∙ ap₂ (λ v l. record { x = k; value = v } ∷ shares_of n (range_with_len (k + 1) (total - (k + 1))) l) (take_at value others n size) (drop_at value others n size))
      ∙ sym (append_assoc (plain (take k shares)) (record { x = k; value = value } ∷ []) (shares_of n (range_with_len (k + 1) (total - (k + 1))) others))
      ∙ ap (λ l. l ++ shares_of n (range_with_len (k + 1) (total - (k + 1))) others)
      (ap₂ (λ i v. plain (take k shares) ++ (record { x = i; value = v } ∷ [])) (sym ex) (sym ev)
      ∙ sym (map-append lent (take k shares) (s ∷ [])) ∙ ap plain (sym (take_more_set shares k s h)))

pub none_drawn : (n total k : ℕ) (shares : List Lent) (rest drawn : List ℕ) → k ≡ 0 → rest ≡ drawn
    → shares_of n (range_with_len 0 total) drawn ≡ plain (take k shares) ++ shares_of n (range_with_len k (total - k)) rest
none_drawn n total k shares rest drawn e is =
    let z : total - 0 ≡ total = omega arith in
    sym (ap₂ (λ j l. plain (take j shares) ++ shares_of n (range_with_len j (total - j)) l) e is ∙ ap (λ j. shares_of n (range_with_len 0 j) drawn) z)

-- ---- the last two shares
pub both_ends : (n t k : ℕ) (shares : List Lent) (a b : Lent) (check secret rest : List ℕ) (all : List Share) → 2 ≤ t → t ≤ length shares → k ≤ t - 2
    → length rest < n → length rest ≡ (t - 2 - k) * n → a.x ≡ 254 → a.value.now ≡ check → b.x ≡ 255 → b.value.now ≡ secret
    → all ≡ plain (take k shares) ++ shares_of n (range_with_len k (t - 2 - k)) rest
    → plain (take t (set (set shares (t - 2) a) (t - 1) b)) ≡ all ++ (record { x = 254; value = check } ∷ record { x = 255; value = secret } ∷ [])
both_ends n t k shares a b check secret rest all two room low end left ax av bx bv inv =
    let none = none_left (t - 2 - k) n rest end left in
    let e : k ≡ t - 2 = omega arith in
    let e1 : t ≡ t - 1 + 1 = omega arith in
    let e2 : t - 1 ≡ t - 2 + 1 = omega arith in
    let la : length (set shares (t - 2) a) ≡ length shares = length-set shares (t - 2) a in
    let whole : all ≡ plain (take (t - 2) shares) =
    inv ∙ ap (λ j. plain (take k shares) ++ shares_of n (range_with_len k j) rest) none ∙ append-nil (plain (take k shares)) ∙ ap (λ j. plain (take j shares)) e in
    ap (λ j. plain (take j (set (set shares (t - 2) a) (t - 1) b))) e1
    ∙ ap plain (take_more_set (set shares (t - 2) a) (t - 1) b (omega arith) ∙ ap (λ j. take j (set shares (t - 2) a) ++ (b ∷ [])) e2
    ∙ ap (λ l. l ++ (b ∷ [])) (take_more_set shares (t - 2) a (omega arith)) ∙ append_assoc (take (t - 2) shares) (a ∷ []) (b ∷ []))
    ∙ map-append lent (take (t - 2) shares) (a ∷ b ∷ [])
    ∙ ap₂ (λ l p. l ++ p) (sym whole)
    (ap₂ (λ p q. p ∷ q ∷ []) (ap₂ (λ i v. record { x = i; value = v }) ax av) (ap₂ (λ i v. record { x = i; value = v }) bx bv))

-- ---- the shares that fix the curve are those of the draws, and are sound
shares-front : (n : ℕ) (ps values : List ℕ) → shares_of n ps (take (length ps * n) values) ≡ shares_of n ps values
shares-front n [] values = refl
shares-front n (p ∷ ps) values =
    let e : suc (length ps) * n ≡ n + length ps * n = suc-mul (length ps) n ∙ omega arith in
    ap₂ (λ v l. record { x = p; value = v } ∷ l) (ap (λ k. take n (take k values)) e ∙ take-take n (n + length ps * n) values (omega arith))
    (ap (λ k. shares_of n ps (drop n (take k values))) e ∙ ap (shares_of n ps) (drop-take n (length ps * n) values) ∙ shares-front n ps (drop n values))

pub chosen-is : (keyed : List ℕ → List ℕ → List ℕ) (t : ℕ) (secret drawn values key check : List ℕ) → values ≡ take ((t - 2) * length secret) drawn
    → key ≡ drop ((t - 2) * length secret) drawn → check ≡ take 4 (keyed key secret) ++ key
    → shares_of (length secret) (range_with_len 0 (t - 2)) values ++ (record { x = 254; value = check } ∷ record { x = 255; value = secret } ∷ [])
    ≡ chosen_shares keyed t secret drawn
chosen-is keyed t secret drawn values key check ev ek ec =
    let n = length secret in
    let ps = range_with_len 0 (t - 2) in
    ap₂ (λ l c. l ++ (record { x = 254; value = c } ∷ record { x = 255; value = secret } ∷ []))
    (ap (shares_of n ps) (ev ∙ ap (λ k. take (k * n) drawn) (sym (length-range_with_len 0 (t - 2)))) ∙ shares-front n ps drawn)
    (ec ∙ ap (λ k. take 4 (keyed k secret) ++ k) ek)

pub sound_fixing : (n t : ℕ) (shares : List Lent) (values check secret : List ℕ) → t ≤ 16 → n ≤ 64 → length shares ≤ 16 → length values ≡ (t - 2) * n
    → length check ≡ n → length secret ≡ n
    → plain shares ≡ shares_of n (range_with_len 0 (t - 2)) values ++ (record { x = 254; value = check } ∷ record { x = 255; value = secret } ∷ []) → Sound n shares
sound_fixing n t shares values check secret most short few lv lc ls is =
    let ps = range_with_len 0 (t - 2) in
    let k : length ps ≡ t - 2 = length-range_with_len 0 (t - 2) in
    let enough : length ps * n ≤ length values = le_of_eq (ap (λ j. j * n) k ∙ sym lv) in
    record {
      few = few;
      short = short;
      lengths = of_plain (λ s. length s.value ≡ n) shares (subst (λ l. AllByRecursion (λ s. length s.value ≡ n) l) (sym is)
          (All-append (λ s. length s.value ≡ n) (shares_of n ps values) _ (Flat.shares-lengths n ps values enough) (lc, (ls, tt))));
      distinct = subst Distinct (sym (ap (map (λ s. s.x)) is ∙ map-append (λ s. s.x) (shares_of n ps values) _ ∙ ap (λ l. l ++ (254 ∷ 255 ∷ [])) (Flat.places_of n ps values)) ∙ plain-places shares)
          (distinct_ends ps (distinct_counting 0 (t - 2)) (all-counting-low 254 0 (t - 2) (omega arith)));
    }

-- ---- the places in an array
-- the places of the shares that fix the curve
abbrev pub chosen_places : ℕ → List ℕ
chosen_places t = range_with_len 0 (t - 2) ++ (254 ∷ 255 ∷ [])

counting_push : (a n : ℕ) → range_with_len a (n + 1) ≡ range_with_len a n ++ ((a + n) ∷ [])
counting_push a zero = ap (λ x. x ∷ []) (sym (add-zero a))
counting_push a (suc n) =
    let e : suc n + 1 ≡ suc (n + 1) = omega arith in
    let f : a + 1 + n ≡ a + suc n = omega arith in
    ap (range_with_len a) e ∙ ap (λ l. a ∷ l) (counting_push (a + 1) n ∙ ap (λ k. range_with_len (a + 1) n ++ (k ∷ [])) f)

pub place_more : (xs : List ℕ) (i : ℕ) → i < length xs → take i xs ≡ range_with_len 0 i → take (i + 1) (set xs i i) ≡ range_with_len 0 (i + 1)
place_more xs i h inv =
    let e : 0 + i ≡ i = omega arith in
    take_more_set xs i i h ∙ ap (λ l. l ++ (i ∷ [])) inv ∙ sym (counting_push 0 i ∙ ap (λ k. range_with_len 0 i ++ (k ∷ [])) e)

pub places-all : (t : ℕ) (xs : List ℕ) (i : ℕ) → 2 ≤ t → length xs ≡ t → i ≤ t - 2 → t - 2 ≤ i → take i xs ≡ range_with_len 0 i
    → set (set xs (t - 2) 254) (t - 1) 255 ≡ chosen_places t
places-all t xs i two n h k inv =
    let j : i ≡ t - 2 = omega arith in
    let m : t - 1 ≡ t - 2 + 1 = omega arith in
    let a : length (set xs (t - 2) 254) ≡ length xs = length-set xs (t - 2) 254 in
    let b : length (set (set xs (t - 2) 254) (t - 1) 255) ≡ length (set xs (t - 2) 254) = length-set (set xs (t - 2) 254) (t - 1) 255 in
    sym (take_all (t - 1 + 1) (set (set xs (t - 2) 254) (t - 1) 255) (omega arith))
    ∙ take_more_set (set xs (t - 2) 254) (t - 1) 255 (omega arith)
    ∙ ap (λ k. take k (set xs (t - 2) 254) ++ (255 ∷ [])) m
    ∙ ap (λ l. l ++ (255 ∷ [])) (take_more_set xs (t - 2) 254 (omega arith) ∙ ap (λ l. l ++ (254 ∷ [])) (subst (λ k. take k xs ≡ range_with_len 0 k) j inv))
    ∙ append_assoc (range_with_len 0 (t - 2)) (254 ∷ []) (255 ∷ [])

pub length-places : (t : ℕ) → 2 ≤ t → length (chosen_places t) ≡ t
length-places t h = omega (arith, length-append (range_with_len 0 (t - 2)) (254 ∷ 255 ∷ []), length-range_with_len 0 (t - 2))

-- ---- the shares in an area
-- four parts, each behind the ones before
pub all-parts : (at n : ℕ) (area a1 a2 a3 a4 values check key secret : List ℕ)
    → length values ≡ at → length check ≡ 4 → length key ≡ n - 4 → 4 ≤ n → length secret ≡ n → length a4 ≡ at + n + n
    → take (0 + length values) a1 ≡ take 0 area ++ values → take (at + length check) a2 ≡ take at a1 ++ check
    → take (at + 4 + length key) a3 ≡ take (at + 4) a2 ++ key → take (at + n + length secret) a4 ≡ take (at + n) a3 ++ secret
    → a4 ≡ ((values ++ check) ++ key) ++ secret
all-parts at n area a1 a2 a3 a4 values check key secret lv lc lk h ls l4 p1 p2 p3 p4 =
    let e1 : at ≡ 0 + length values = omega arith in
    let e2 : at + 4 ≡ at + length check = omega arith in
    let e3 : at + n ≡ at + 4 + length key = omega arith in
    let q1 : take at a1 ≡ values = ap (λ k. take k a1) e1 ∙ p1 in
    let q2 : take (at + 4) a2 ≡ values ++ check = ap (λ k. take k a2) e2 ∙ p2 ∙ ap (λ l. l ++ check) q1 in
    let q3 : take (at + n) a3 ≡ (values ++ check) ++ key = ap (λ k. take k a3) e3 ∙ p3 ∙ ap (λ l. l ++ key) q2 in
    sym (take_all (at + n + length secret) a4 (omega arith)) ∙ p4 ∙ ap (λ l. l ++ secret) q3

pub whole_length : (t n : ℕ) → 2 ≤ t → t * n ≡ (t - 2) * n + n + n
whole_length t n h =
    let e : t ≡ suc (suc (t - 2)) = omega arith in
    ap (λ k. k * n) e ∙ suc-mul (suc (t - 2)) n ∙ ap (λ k. k + n) (suc-mul (t - 2) n)

shares-append : (n : ℕ) (ps qs a b : List ℕ) → length a ≡ length ps * n → shares_of n (ps ++ qs) (a ++ b) ≡ shares_of n ps a ++ shares_of n qs b
shares-append n [] qs [] b h = refl
shares-append n [] qs (x ∷ a) b h = absurd (let z : 0 * n ≡ 0 = zero-mul n in omega arith)
shares-append n (p ∷ ps) qs a b h =
    let e : suc (length ps) * n ≡ length ps * n + n = suc-mul (length ps) n in
    let long : n ≤ length a = omega arith in
    let rest : length (drop n a) ≡ length ps * n = omega (arith, length-drop n a) in
    ap₂ (λ v l. record { x = p; value = v } ∷ l) (take-append-le n a b long)
    (ap (shares_of n (ps ++ qs)) (drop-append-le n a b long) ∙ shares-append n ps qs (drop n a) b rest)

two-shares : (n : ℕ) (check secret : List ℕ) → length check ≡ n → length secret ≡ n
    → shares_of n (254 ∷ 255 ∷ []) (check ++ secret) ≡ record { x = 254; value = check } ∷ record { x = 255; value = secret } ∷ []
two-shares n check secret lc ls =
    ap₂ (λ u v. record { x = 254; value = u } ∷ record { x = 255; value = v } ∷ []) (take_at check secret n lc)
    (ap (take n) (drop_at check secret n lc) ∙ take_all n secret (le_of_eq ls))

-- ---- the value that is answered
module _ (keyed : List ℕ → List ℕ → List ℕ) (secret drawn : List ℕ) (x : ℕ) where
  pub dealt_one : (t u : ℕ) (after : List ℕ) → u ≡ t → u < 2 → after ≡ secret → after ≡ dealt_value keyed t secret drawn x
  dealt_one t u after e h is =
      let low : leb t 1 ≡ true = grind (arith, nat_tests) in
      is ∙ sym (ap (λ b. cond b secret (value_through (length secret) (chosen_shares keyed t secret drawn) x)) low)

  pub dealt_more : (t u : ℕ) (after : List ℕ) → u ≡ t → 2 ≤ u → after ≡ value_through (length secret) (chosen_shares keyed u secret drawn) x
      → after ≡ dealt_value keyed t secret drawn x
  dealt_more t u after e h is =
      let high : leb t 1 ≡ false = grind (arith, nat_tests) in
      is ∙ ap (λ k. value_through (length secret) (chosen_shares keyed k secret drawn) x) e
      ∙ sym (ap (λ b. cond b secret (value_through (length secret) (chosen_shares keyed t secret drawn) x)) high)
