-- .
use Rattle.std.proofs.Common.{append_assoc, rules}
use Rattle.commands.proofs.answer.member_fields.Goals as goal

pub returns : goal.returns
returns c = search (rules, append_assoc)
