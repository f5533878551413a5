-- The points so far.
use Rattle.std.proofs.Common.{◌≡◌, length, take}
use Rattle.sharing.specs.Values.{plain, points_at}
use Rattle.sharing.proofs.sound.SoundShares.byte_at.Given as goal

abbrev pub invariant-loop-i : goal.invariant-loop-i
invariant-loop-i l = record { room : length l.points ≡ 16; same : take l.i l.points ≡ take l.i (points_at l.j (plain l.self.shares.now)) }
