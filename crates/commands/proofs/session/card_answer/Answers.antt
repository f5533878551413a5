-- What the closure made of the card.
use Rattle.std.proofs.Common.{refl}
use Rattle.commands.proofs.session.card_answer.Goals as goal

pub returns-in_ok-show-in-Ok : goal.returns-in_ok-show-in-Ok
returns-in_ok-show-in-Ok g c = rw c.in-Ok.is (refl, (_, c.in_ok-show-in-Ok.ensures, refl))
