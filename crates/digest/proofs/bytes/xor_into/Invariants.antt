-- The bytes below i are combined; those from i on are as they were.
use Rattle.std.proofs.Common.{◌≡◌, ◌++◌, take, drop}
use Rattle.digest.specs.Keyed.{xors}
use Rattle.digest.proofs.bytes.xor_into.Given as goal

abbrev pub invariant-loop-i : goal.invariant-loop-i
invariant-loop-i l = take l.i l.target ++ xors (drop l.i l.target) (drop l.i l.mask) ≡ xors l.initial.target l.mask
