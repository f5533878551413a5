-- The text of the words so far, and after it what the space held.
use Rattle.std.proofs.Common.{◌≡◌, ◌+◌, ◌++◌, length, take, drop}
use Rattle.checksum.specs.Values.{values}
use Rattle.reader.specs.Writing.{spell}
use Rattle.reader.proofs.writing.write_words.Given as goal

abbrev pub invariant-loop-element : goal.invariant-loop-element
invariant-loop-element g l =
    let text = spell (g.L.Lexicon.words l.lexicon) (take (l.element-index + 1) (values l.words)) in
    (l.at ≡ length text) × (l.space ≡ text ++ drop l.at l.initial.space)
