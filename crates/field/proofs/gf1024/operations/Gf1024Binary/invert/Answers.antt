-- The loop of `invert`.
use Rattle.std.proofs.Common.{◌≡◌, suc, ◌+◌, ◌-◌, sym, ap, ◌∙◌, ap₂, arith}
use Rattle.field.specs.CarryLess.{times_squares}
use Rattle.field.proofs.gf1024.operations.Gf1024Binary.invert.Goals as goal

pub loop-preserved : goal.loop-preserved
unfolding times_squares
loop-preserved c =
    let more : 9 - c.loop.counter ≡ suc (9 - (c.loop.counter + 1)) = omega arith in (
      c.loop.invariant.0 ∙ ap (λ k. times_squares 10 9 k c.loop.square c.loop.power) more
          ∙ ap₂ (times_squares 10 9 (9 - (c.loop.counter + 1))) (sym c.multiply-square.ensures.value) (cc),
      omega arith,
      omega arith,
    )

pub returns-clause-value : goal.returns-clause-value
unfolding times_squares
returns-clause-value c =
    let z : 9 - c.loop.counter ≡ 0 = omega arith in
    sym (c.loop.invariant.0 ∙ ap (λ k. times_squares 10 9 k c.loop.square c.loop.power) z)
