-- A long key and a short one.
use Rattle.std.proofs.Common.{ap, ◌∙◌}
use Rattle.digest.specs.Hmac.{filled}
use Rattle.digest.proofs.Keys.{key_long, key_short}
use Rattle.digest.proofs.hmac.key_block.Goals as goal

pub returns-then-key-gt64 : goal.returns-then-key-gt64
returns-then-key-gt64 c = c.filled.ensures ∙ ap filled c.sha256_of.ensures ∙ key_long c.args.key.now c.if-key-gt64.true

pub returns-else-key-gt64 : goal.returns-else-key-gt64
returns-else-key-gt64 c = c.filled-else-key-gt64.ensures ∙ key_short c.args.key.now c.if-key-gt64.false
