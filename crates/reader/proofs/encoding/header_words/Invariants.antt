-- The words so far are the first of the four.
use Rattle.std.proofs.Common.{◌≡◌, take}
use Rattle.reader.specs.Words.{Holds}
use Rattle.reader.specs.Writing.{words_for}
use Rattle.reader.proofs.encoding.header_words.Given as goal

abbrev pub invariant-loop-after : goal.invariant-loop-after
invariant-loop-after l = Holds l.words (take l.after-index (words_for 4 l.number)) × (l.words.count ≡ l.after-index)
