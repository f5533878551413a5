-- What is left of the sum gives the same answer, and the points so far have an x that no other has.
use Rattle.std.proofs.Common.{◌≡◌, take, drop}
use Rattle.field.specs.Interpolation.{Distinct, xs_of, lagrange_after, lagrange}
use Rattle.field.proofs.interpolation.interpolate.Given as goal

abbrev pub invariant-loop-i : goal.invariant-loop-i
invariant-loop-i g l =
    let f = g.F.Field in
    (f.sum l.total (lagrange_after f.zero f.one f.sum f.product f.inverse l.x (xs_of (take l.i l.points)) (drop l.i l.points))
    ≡ lagrange f.zero f.one f.sum f.product f.inverse l.x l.points)
    × (Distinct (xs_of (drop l.i l.points)) → Distinct (xs_of l.points))
