-- The product by the bits of b from i up.
use Rattle.std.proofs.Common.{◌≡◌, ◌-◌, ◌/◌, ◌^◌, ◌<◌}
use Rattle.field.specs.CarryLess.{product_by}
use Rattle.field.proofs.gf1024.operations.Gf1024Binary.multiply.Given as goal

abbrev pub invariant-loop-i : goal.invariant-loop-i
invariant-loop-i l = (l.product ≡ product_by 10 9 (10 - l.i) l.a (l.b / 2 ^ l.i)) × (l.product < 1024)
