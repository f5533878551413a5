-- The parts of the line, joined in another order.
use Rattle.std.proofs.Common.{◌≡◌, cond, IfOk, string_bytes, append_assoc, rules}
use Rattle.commands.specs.Answers.{deal_part}
use Rattle.commands.proofs.answer.deal_fields.Goals as goal

pub returns : goal.returns
returns c =
    let card = c.args.card.now.parts in
    let joined : IfOk c.format.result (λ s. string_bytes s ≡ deal_part card.identifier.value c.from.result card.exponent.value) = search (rules, append_assoc) in
    let flag : c.from.result ≡ cond card.extendable 1 0 = search rules in
    rw flag at joined
