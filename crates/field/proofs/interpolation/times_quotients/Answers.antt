-- The loop of `times_quotients`.
use Rattle.field.proofs.InterpolationSteps as Steps
use Rattle.field.proofs.interpolation.times_quotients.Goals as goal

pub returns-in_err-divisor : goal.returns-in_err-divisor
returns-in_err-divisor g c =
    Steps.quotients-none g.met.F.Field.laws c.args.x c.args.xi c.args.start c.args.others.now c.loop-other.other-index c.other-item.result
    c.from_residual.result c.loop-other-test.true c.other-item.is (cc c.in_err-divisor.was) c.from_residual.ensures

pub loop-other-preserved : goal.loop-other-preserved
loop-other-preserved g c =
    Steps.quotients-more g.met.F.Field.laws c.args.x c.args.xi c.args.start c.loop-other.result c.times-result.result c.in_ok-divisor.divisor
    c.args.others.now c.loop-other.other-index c.other-item.result c.loop-other-test.true c.other-item.is
    (cc c.in_ok-divisor.was) (cc) c.loop-other.invariant
