-- The byte that the interpolation at one byte position gives.
use Rattle.std.proofs.Common.{◌≡◌, ℕ, suc, List, [], ◌∷◌, get_or, is_some, Some, None, Option, true, sym, ap, ◌∙◌, subst, ap₂, w8, Fits}
use Rattle.field.specs.declared.gf256.Gf256.{Gf256}
use Rattle.field.specs.declared.interpolation.point.Point.{Point}
use Rattle.field.specs.Gf256.{element, sum, product, inverse}
use Rattle.field.specs.Interpolation.{Distinct, xs_of, lagrange, Interpolated}
use Rattle.digest.specs.Keyed.{Bytes}
use Rattle.sharing.specs.Curves.{Share, Shares}
use Rattle.sharing.specs.Values.{points_at, byte_through}
use Rattle.sharing.proofs.PositionPolynomials as Positions

pub bytes-typed : (xs : List ℕ) → ((i : ℕ) → Fits w8 (get_or xs i 0)) → Bytes xs
bytes-typed [] h = tt
bytes-typed (x ∷ xs) h = ((h 0).fits, bytes-typed xs (λ i. h (suc i)))

some : (points : List (Point Gf256)) (e : Gf256) (r : Option Gf256) → Interpolated (element 0) (element 1) sum product inverse e points r → Distinct (xs_of points)
    → r ≡ Some (lagrange (element 0) (element 1) sum product inverse e points)
some points e None is d = absurd (is d)
some points e (Some v) is d = ap Some is.1

module _ (n : ℕ) (shares : List Share) (sound : Shares n shares) (x j : ℕ) (points : List (Point Gf256)) (e : Gf256) (r : Option Gf256)
    (is : points ≡ points_at j shares) (answer : Interpolated (element 0) (element 1) sum product inverse e points r) where
  value-is : r ≡ Some (lagrange (element 0) (element 1) sum product inverse e points)
  value-is =
      some points e r answer
      (subst (λ l. Distinct (xs_of l)) (sym is) (Positions.points_distinct n shares sound j))

  pub there : is_some r ≡ true
  there = ap is_some value-is

  pub byte_is : (v : Gf256) (b : ℕ) → e ≡ element x → r ≡ Some v → b ≡ v.value → b ≡ byte_through shares x j
  unfolding byte_through
  byte_is v b ex rv bv =
      let vv : v ≡ lagrange (element 0) (element 1) sum product inverse e points = cc (value-is) in
      bv ∙ ap (λ a. a.value) (vv ∙ ap₂ (lagrange (element 0) (element 1) sum product inverse) ex is)
