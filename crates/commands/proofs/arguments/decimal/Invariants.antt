-- The digits still to come decide, and the number so far fits.
use Rattle.std.proofs.Common.{◌≡◌, ◌≤◌, drop}
use Rattle.std.specs.Str.Parse.{digits_value_after}
use Rattle.commands.specs.Arguments.{number_in, only_digits}
use Rattle.commands.proofs.arguments.decimal.Given as goal

abbrev pub invariant-loop-b : goal.invariant-loop-b
invariant-loop-b l =
    (l.total ≤ 65535)
    × (only_digits 10 (drop l.b-index l.text) ≡ only_digits 10 l.text)
    × (digits_value_after 10 l.total (drop l.b-index l.text) ≡ number_in l.text)
