-- What is left of the key, then of the message, still makes the digest.
use Rattle.std.proofs.Common.{◌≡◌, ◌+◌, ◌++◌, length, drop}
use Rattle.digest.specs.Lanes.{none, mixed}
use Rattle.digest.proofs.drill.lanes_of.Given as goal

abbrev pub invariant-loop-i : goal.invariant-loop-i
invariant-loop-i l = (length l.lanes ≡ 4) × (mixed l.lanes l.i (drop l.i l.key) ≡ mixed none 0 l.key)

abbrev pub invariant-loop-j : goal.invariant-loop-j
invariant-loop-j l = (length l.lanes ≡ 4) × (mixed l.lanes (length l.key + l.j) (drop l.j l.message) ≡ mixed none 0 (l.key ++ l.message))
