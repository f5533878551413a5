-- Shares that are lent, as pairs of a place and a value.
use Rattle.std.proofs.Common.{◌≡◌, ℕ, ◌+◌, ◌<◌, ◌≤◌, List, [], ◌∷◌, map, ◌++◌, length, get_or, take, set, refl, sym, ap, ◌∙◌, subst, ap₂, arith, length-take}
use lib.ListN.{length-map}
use Rattle.std.specs.List.{All, AllByRecursion}
use Rattle.std.proofs.ByRecursion.{All-map}
use Rattle.std.proofs.lemmas.List.{get_or-map, take_more_set, take_more, take_all}
use Rattle.std.proofs.lemmas.List.Elements.{recursion_from_All, All-from_recursion, All-take}
use Rattle.field.specs.Interpolation.{Distinct}
use Rattle.field.specs.declared.gf256.Gf256.{Gf256}
use Rattle.field.specs.declared.interpolation.point.Point.{Point}
use Rattle.digest.specs.Keyed.{Bytes}
use Rattle.sharing.specs.Curves.{Share, Shares}
use Rattle.sharing.specs.declared.share.Share.{Share as Lent}
use Rattle.sharing.specs.Values.{lent, plain, Sound, point_at, points_at}
use Rattle.sharing.proofs.Places.{distinct_map_take}

pub plain-places : (shares : List Lent) → map (λ s. s.x) (plain shares) ≡ map (λ s. s.x) shares
plain-places [] = refl
plain-places (s ∷ shares) = ap (λ l. s.x ∷ l) (plain-places shares)

small : (shares : List Lent) → AllByRecursion (λ s. s.x < 256) (plain shares)
small [] = tt
small (s ∷ shares) = (s.place, small shares)

bytes : (shares : List Lent) → AllByRecursion (λ s. Bytes s.value) (plain shares)
bytes [] = tt
bytes (s ∷ shares) = (s.bytes, bytes shares)

pub shares_sound : (n : ℕ) (shares : List Lent) → Sound n shares → Shares n (plain shares)
shares_sound n shares sound =
    record {
      distinct = subst Distinct (sym (plain-places shares)) sound.distinct;
      places = small shares;
      lengths = All-map (λ s. length s.value ≡ n) lent shares (recursion_from_All (λ s. length s.value.now ≡ n) shares sound.lengths);
      bytes = bytes shares;
    }

-- what holds of each pair holds of each lent share
pub of_plain : (P : Share → Type 0) (shares : List Lent) → AllByRecursion P (plain shares) → All (λ s. P (lent s)) shares
of_plain P shares all = All-from_recursion (λ s. P (lent s)) shares (each shares all)
  where
    each : (l : List Lent) → AllByRecursion P (plain l) → AllByRecursion (λ s. P (lent s)) l
    each [] all = tt
    each (s ∷ l) all = (all.0, each l all.1)

pub sound_first : (n t : ℕ) (shares first : List Lent) → first ≡ take t shares → Sound n shares → Sound n first
sound_first n t shares first is sound =
    subst (Sound n) (sym is) (record {
      few = omega (arith, length-take t shares, sound.few);
      short = sound.short;
      lengths = All-take (λ s. length s.value.now ≡ n) t shares sound.lengths;
      distinct = distinct_map_take (λ s. s.x) t shares sound.distinct;
    })

-- ---- the points at one byte position
length-points : (j : ℕ) (shares : List Lent) → length (points_at j (plain shares)) ≡ length shares
length-points j shares = length-map (plain shares) (point_at j) ∙ length-map shares lent

point-at : (j : ℕ) (shares : List Lent) (i : ℕ) (d : Lent) (e : Point Gf256) → i < length shares
    → get_or (points_at j (plain shares)) i e ≡ point_at j (lent (get_or shares i d))
point-at j shares i d e h =
    get_or-map (point_at j) (plain shares) i (lent d) e (subst (λ k. i < k) (sym (length-map shares lent)) h)
    ∙ ap (point_at j) (get_or-map lent shares i d (lent d) h)

pub points_more : (j : ℕ) (shares : List Lent) (i : ℕ) (s : Lent) (points : List (Point Gf256)) (p : Point Gf256) → i < length shares → i < length points
    → s ≡ get_or shares i s → p ≡ point_at j (lent s) → take i points ≡ take i (points_at j (plain shares))
    → take (i + 1) (set points i p) ≡ take (i + 1) (points_at j (plain shares))
points_more j shares i s points p h k item is inv =
    take_more_set points i p k
    ∙ ap₂ (λ l q. l ++ (q ∷ [])) inv (is ∙ ap (λ t. point_at j (lent t)) item ∙ sym (point-at j shares i s p h))
    ∙ sym (take_more (points_at j (plain shares)) i p (subst (λ k. i < k) (sym (length-points j shares)) h))

pub points_all : (j : ℕ) (shares : List Lent) (i : ℕ) (points : List (Point Gf256)) → i ≤ length shares → length shares ≤ i
    → take i points ≡ take i (points_at j (plain shares)) → take (length shares) points ≡ points_at j (plain shares)
points_all j shares i points h k inv =
    let e : length shares ≡ i = omega arith in
    ap (λ k. take k points) e ∙ inv ∙ take_all i (points_at j (plain shares)) (omega (arith, length-points j shares))
