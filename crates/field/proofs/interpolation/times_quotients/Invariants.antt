-- What is left of the product gives the same answer, and the divisors so far were not 0.
use Rattle.std.proofs.Common.{◌≡◌, take, drop}
use Rattle.field.specs.Interpolation.{Absent, xs_of, quotients}
use Rattle.field.proofs.interpolation.times_quotients.Given as goal

abbrev pub invariant-loop-other : goal.invariant-loop-other
invariant-loop-other g l =
    let f = g.F.Field in
    let Q = quotients f.zero f.one f.sum f.product f.inverse l.x l.xi in
    (f.product l.result (Q (xs_of (drop l.other-index l.others))) ≡ f.product l.initial.result (Q (xs_of l.others)))
    × Absent l.xi (xs_of (take l.other-index l.others))
