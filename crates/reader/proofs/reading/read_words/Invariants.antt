-- The words so far, followed by what is left of the line, give the whole line's answer.
use Rattle.std.proofs.Common.{◌≡◌, ℕ, ◌-◌, ◌≤◌, List, length}
use Rattle.reader.specs.Line.{pieces_from}
use Rattle.reader.specs.Reading.{prefixed, indices_in}
use Rattle.reader.specs.Words.{Holds}
use Rattle.reader.proofs.reading.read_words.Given as goal

abbrev pub invariant-loop-offset : goal.invariant-loop-offset
invariant-loop-offset g l =
    let lexicon = g.L.Lexicon.words l.lexicon in
    (l.tokens.line.now ≡ l.line) × (l.read.count ≤ l.tokens.position)
    × ((ws : List ℕ) × (Holds l.read ws × (prefixed ws (indices_in lexicon (pieces_from l.line l.tokens.position)) ≡ indices_in lexicon (pieces_from l.line 0))))

abbrev pub decreases-loop-offset : goal.decreases-loop-offset
decreases-loop-offset g l = length l.line - l.tokens.position
