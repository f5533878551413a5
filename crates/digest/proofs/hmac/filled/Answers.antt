-- The key, then what is left of the zeros.
use Rattle.std.proofs.Common.{refl}
use Rattle.digest.proofs.Keys.{filled_is}
use Rattle.digest.proofs.hmac.filled.Goals as goal

pub returns : goal.returns
returns c = filled_is _ _ c.args.key.now refl c.copy_from_slice.ensures.after
