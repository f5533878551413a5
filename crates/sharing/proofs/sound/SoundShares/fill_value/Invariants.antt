-- The bytes so far.
use Rattle.std.proofs.Common.{◌≡◌, ℕ, ◌<◌, get_or}
use Rattle.sharing.specs.Values.{plain, byte_through}
use Rattle.sharing.proofs.sound.SoundShares.fill_value.Given as goal

abbrev pub invariant-loop-j : goal.invariant-loop-j
invariant-loop-j l = (k : ℕ) → k < l.j → get_or l.value k 0 ≡ byte_through (plain l.self.shares.now) l.x k
