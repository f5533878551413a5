-- The library compares the words as the definition does.
use Rattle.std.proofs.Common.{arith}
use Rattle.std.proofs.lemmas.Grind.{common_steps}
use Rattle.lexicon.proofs.ByteComparisons.{before_decided, begins_decided}
use Rattle.lexicon.proofs.word_file.loading.follows.Goals as goal

pub returns : goal.returns
returns c = grind (arith, common_steps, before_decided, begins_decided)
