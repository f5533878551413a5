-- A line of four to eight letters that a line feed ends is right.
use Rattle.std.proofs.Common.{arith}
use Rattle.std.proofs.lemmas.Grind.{common_steps}
use Rattle.lexicon.specs.WordFileLines.{is_line}
use Rattle.lexicon.proofs.word_file.loading.first_word.Goals as goal

pub returns-in-4-to-8-eq10 : goal.returns-in-4-to-8-eq10
returns-in-4-to-8-eq10 c = grind (arith, common_steps, is_line)
