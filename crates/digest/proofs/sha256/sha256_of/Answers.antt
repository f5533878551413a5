-- The digest from the initial hash value.
use Rattle.std.proofs.Common.{◌∙◌}
use Rattle.digest.specs.Padding.{sha256-is}
use Rattle.digest.proofs.sha256.sha256_of.Goals as goal

pub returns : goal.returns
returns c = c.finish.ensures ∙ sha256-is c.args.message.now
