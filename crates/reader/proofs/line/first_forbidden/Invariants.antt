-- What is left of the line gives the whole line's answer.
use Rattle.std.proofs.Common.{◌≡◌, drop}
use Rattle.reader.specs.Line.{first_forbidden}
use Rattle.reader.proofs.line.first_forbidden.Given as goal

abbrev pub invariant-loop-i : goal.invariant-loop-i
invariant-loop-i l = first_forbidden l.i (drop l.i l.line) ≡ first_forbidden 0 l.line
