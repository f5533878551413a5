-- The hash value after so many blocks.
use Rattle.std.proofs.Common.{◌≡◌}
use Rattle.digest.specs.Sha256.{hashed}
use Rattle.digest.proofs.sha256.blocks.absorb.Given as goal

abbrev pub invariant-loop-block : goal.invariant-loop-block
invariant-loop-block l = l.value ≡ hashed l.initial.value l.block-index l.bytes
