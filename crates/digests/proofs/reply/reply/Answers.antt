-- The parts of the line, put together from the left.
use Rattle.std.proofs.Common.{append_assoc, rules}
use Rattle.std.proofs.lemmas.Result.{IfOk-weaker}
use Rattle.digests.proofs.reply.reply.Goals as goal

pub returns-in-Err : goal.returns-in-Err
returns-in-Err c = rw c.in-Err.is (IfOk-weaker c.format.result _ _ (λ s h. search (rules, append_assoc)) c.format.ensures.ok)
