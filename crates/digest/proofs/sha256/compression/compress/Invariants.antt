-- The working variables after 16 * i rounds, and the window of the schedule last used.
use Rattle.std.proofs.Common.{◌≡◌, ◌-◌, ◌*◌, length, drop}
use Rattle.digest.specs.Sha256.{schedule, rounds}
use Rattle.digest.proofs.sha256.compression.compress.Given as goal

abbrev pub invariant-loop-i : goal.invariant-loop-i
invariant-loop-i g l =
    (length l.v ≡ 8) × (length l.w ≡ 16) × (l.v ≡ rounds (16 * l.i) (schedule 48 l.initial.w) l.state)
    × (schedule (48 - 16 * (l.i - 1)) l.w ≡ drop (16 * (l.i - 1)) (schedule 48 l.initial.w))
