-- The parts are shorter.
use Rattle.std.proofs.Common.{length}
use Rattle.cipher.proofs.wiped.+is_zero.Given as goal

abbrev pub decreases-is_zero : goal.decreases-is_zero
decreases-is_zero l = length l.bytes.now
