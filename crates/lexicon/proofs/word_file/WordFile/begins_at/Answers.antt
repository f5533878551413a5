-- There is a word at the index, and the library compares the bytes with it.
use Rattle.std.proofs.Common.{arith}
use Rattle.std.proofs.lemmas.Grind.{common_steps}
use Rattle.lexicon.proofs.ByteComparisons.{begins_decided}
use Rattle.lexicon.proofs.word_file.WordFile.begins_at.Goals as goal

pub returns : goal.returns
returns c = grind (arith, common_steps, begins_decided)
