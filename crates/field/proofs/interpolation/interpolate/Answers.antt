-- The loop of `interpolate`.
use Rattle.std.proofs.Common.{◌+◌}
use Rattle.std.proofs.lemmas.List.{take_rest}
use Rattle.field.proofs.InterpolationSteps as Steps
use Rattle.field.proofs.interpolation.interpolate.Goals as goal

pub returns-in_err-before : goal.returns-in_err-before
returns-in_err-before g c =
    let law = g.met.F.Field.laws in
    let points = c.args.points.now in
    let sum = Steps.absent law c.args.x points c.from_residual.result c.from_residual.ensures
    (Steps.not_before law c.args.x points c.loop-i.i c.index-points-i.result c.loop-i-test.true c.index-points-i.is c.in_err-before.ensures) in
    record { lagrange = sum; polynomial = Steps.one-polynomial law c.args.x points c.from_residual.result sum }

pub returns-in_err-term : goal.returns-in_err-term
returns-in_err-term g c =
    let law = g.met.F.Field.laws in
    let points = c.args.points.now in
    let sum = Steps.absent law c.args.x points c.from_residual-in_err-term.result c.from_residual-in_err-term.ensures
    (Steps.not_after law c.args.x points c.loop-i.i c.index-points-i.result c.loop-i-test.true c.index-points-i.is
    (rw (take_rest points (c.loop-i.i + 1)) at c.in_err-term.ensures)) in
    record { lagrange = sum; polynomial = Steps.one-polynomial law c.args.x points c.from_residual-in_err-term.result sum }

pub loop-i-preserved : goal.loop-i-preserved
loop-i-preserved g c =
    let last = rw (take_rest c.args.points.now (c.loop-i.i + 1)) at c.in_ok-term.ensures in
    Steps.point_more g.met.F.Field.laws c.args.x c.loop-i.total c.plus-total.result c.in_ok-before.before c.in_ok-term.term c.args.points.now
    c.loop-i.i c.index-points-i.result c.loop-i-test.true c.index-points-i.is
    last.0 c.in_ok-before.ensures.1 last.1 c.plus-total.ensures c.loop-i.invariant

pub returns : goal.returns
returns g c =
    let law = g.met.F.Field.laws in
    let sum = Steps.points_all law c.args.x c.loop-i.total c.args.points.now c.loop-i.i c.loop-i.auto.i-end c.loop-i-test.false c.loop-i.invariant in
    record { lagrange = sum; polynomial = Steps.one-polynomial law c.args.x c.args.points.now _ sum }
