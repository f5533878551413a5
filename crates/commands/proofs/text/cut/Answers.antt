-- The texts of a line, its first one apart.
use Rattle.commands.proofs.SpaceSeparated.{texts-some, texts-none}
use Rattle.commands.proofs.text.cut.Goals as goal

pub returns-in-Some-clause-texts : goal.returns-in-Some-clause-texts
returns-in-Some-clause-texts c = texts-some c.args.line.now c.in-Some.end c.in-Some.ensures

pub returns-in-None-clause-texts : goal.returns-in-None-clause-texts
returns-in-None-clause-texts c = texts-none c.args.line.now c.in-None.ensures
