-- What is to come stays the same from byte to byte.
use Rattle.std.proofs.Common.{◌≡◌, ◌+◌, length}
use Rattle.reader.specs.Line.{pieces_from}
use Rattle.reader.proofs.Pieces.{told, Began}
use Rattle.reader.proofs.line.Tokens.next_token.Given as goal

abbrev pub invariant-loop-k : goal.invariant-loop-k
invariant-loop-k l =
    (l.end ≡ length l.line) × Began l.from l.state (l.from + l.k) × (told l.line l.state (l.from + l.k) ≡ pieces_from l.line l.from)
