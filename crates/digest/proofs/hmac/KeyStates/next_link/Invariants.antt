-- The words after so many of the two compressions.
use Rattle.std.proofs.Common.{◌≡◌}
use Rattle.digest.proofs.WordChains.{link_at}
use Rattle.digest.proofs.hmac.KeyStates.next_link.Given as goal

abbrev pub invariant-loop-step : goal.invariant-loop-step
invariant-loop-step l = l.value ≡ link_at l.fn.self.inner l.fn.self.outer l.initial.value l.step
