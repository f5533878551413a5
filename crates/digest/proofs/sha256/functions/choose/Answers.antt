-- Ch in the form with one operation fewer.
use Rattle.std.proofs.Common.{arith}
use Rattle.digest.proofs.BitLaws.{ch-is}
use Rattle.digest.proofs.sha256.functions.choose.Goals as goal

pub returns : goal.returns
returns c = ch-is c.args.x c.args.y c.args.z (omega arith) (omega arith)
