-- The words so far are the others and the first check words.
use Rattle.std.proofs.Common.{◌+◌, ◌≤◌, ◌++◌, take}
use Rattle.checksum.specs.Values.{values}
use Rattle.reader.specs.Card.{fields_of}
use Rattle.reader.specs.Words.{Holds}
use Rattle.reader.specs.Writing.{data_words}
use Rattle.reader.proofs.encoding.encode.Given as goal

abbrev pub invariant-loop-element : goal.invariant-loop-element
invariant-loop-element l =
    Holds l.words (data_words (fields_of l.card) ++ values (take l.element-index l.element-items)) × (l.words.count ≤ 56 + l.element-index)
