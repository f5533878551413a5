-- Sixteen rounds; the first constant is that at t + 0.
use Rattle.std.proofs.Common.{add-zero, rules}
use Rattle.digest.specs.Parts.{rounds_from}
use Rattle.digest.proofs.sha256.compression.next_rounds.Goals as goal

pub returns-clause-rounds : goal.returns-clause-rounds
unfolding rounds_from
returns-clause-rounds g c = rw (add-zero c.args.t) (search rules)
