-- The bytes are zero after the first turn.
use Rattle.std.proofs.Common.{cond}
use Rattle.cipher.specs.Wiped.{is_zero}
use Rattle.cipher.proofs.wiped.wipe.Given as goal

abbrev pub decreases-loop-bytes : goal.decreases-loop-bytes
decreases-loop-bytes l = cond (is_zero l.bytes) 0 1
