-- The two states.
use Rattle.std.proofs.Common.{arith}
use Rattle.digest.proofs.Keys.{state-is}
use Rattle.digest.proofs.hmac.KeyStates.of_key.Goals as goal

pub returns : goal.returns
returns c = record {
  inner = state-is 0x36 c.args.key.now c.key_block-block.result c.masked.result c.absorb.result c.key_block-block.ensures c.masked.ensures (omega arith) c.absorb.ensures;
  outer = state-is 0x5c c.args.key.now c.key_block-block.result c.masked-2.result c.absorb-2.result c.key_block-block.ensures c.masked-2.ensures (omega arith) c.absorb-2.ensures;
}
