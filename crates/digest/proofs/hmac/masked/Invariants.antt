-- The bytes under the mask, and then the others, as they will be.
use Rattle.std.proofs.Common.{◌≡◌, ◌++◌, map, take, drop}
use lib.Bits.{bit_xor}
use Rattle.digest.proofs.hmac.masked.Given as goal

abbrev pub invariant-loop-byte : goal.invariant-loop-byte
invariant-loop-byte l = take l.byte-index l.byte-items ++ map (bit_xor l.mask) (drop l.byte-index l.byte-items) ≡ map (bit_xor l.mask) l.fn.block
