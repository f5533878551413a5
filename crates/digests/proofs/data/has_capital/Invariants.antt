-- Whether one of those so far is a capital.
use Rattle.std.proofs.Common.{◌≡◌, take}
use Rattle.digests.specs.Data.{has_capital}
use Rattle.digests.proofs.data.has_capital.Given as goal

abbrev pub invariant-loop-b : goal.invariant-loop-b
invariant-loop-b l = l.found ≡ has_capital (take l.b-index l.digits)
