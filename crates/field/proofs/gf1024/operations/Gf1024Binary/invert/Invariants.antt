-- The squarings that are left give the same answer.
use Rattle.std.proofs.Common.{◌≡◌, ◌-◌, ◌<◌}
use Rattle.field.specs.CarryLess.{times_squares}
use Rattle.field.proofs.gf1024.operations.Gf1024Binary.invert.Given as goal

abbrev pub invariant-loop : goal.invariant-loop
invariant-loop l = (times_squares 10 9 9 l.a 1 ≡ times_squares 10 9 (9 - l.counter) l.square l.power) × (l.square < 1024) × (l.power < 1024)
