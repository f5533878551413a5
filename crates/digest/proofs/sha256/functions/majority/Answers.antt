-- Maj in the form with one operation fewer.
use Rattle.digest.proofs.BitLaws.{maj-is}
use Rattle.digest.proofs.sha256.functions.majority.Goals as goal

pub returns : goal.returns
returns c = maj-is c.args.x c.args.y c.args.z
