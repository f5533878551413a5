-- The loop of `multiply`.
use Rattle.std.proofs.Common.{refl, mod-lt, lit<}
use lib.Bits.{xor_lt}
use Rattle.field.specs.CarryLess.{times_x, product_by}
use Rattle.field.specs.CarryLessRing.{one-more-bit, bit-lt, times_x-lt}
use Rattle.field.proofs.gf1024.operations.Gf1024Binary.multiply.Goals as goal

pub loop-i-init : goal.loop-i-init
unfolding product_by
loop-i-init c = (refl, lit< tt)

pub loop-i-preserved : goal.loop-i-preserved
unfolding times_x
loop-i-preserved c = (
  one-more-bit 10 9 10 c.args.a c.args.b c.loop-i.product c.loop-i.i c.loop-i-test.true c.loop-i.auto.i c.loop-i.invariant.0,
  xor_lt 10 _ _ (bit-lt _ _ 1024 (mod-lt _ (lit< tt)) c.requires.a) (times_x-lt 10 9 (lit< tt) c.loop-i.product),
)
