-- The parts of the line, joined in another order, are those of the card.
use Rattle.std.proofs.Common.{◌≡◌, List, ℕ, IfOk, string_bytes, append_assoc, rules, ap, ◌∙◌}
use Rattle.std.proofs.lemmas.Result.{IfOk-weaker}
use Rattle.reader.specs.Card.{Fields, fields_of}
use Rattle.commands.specs.Answers.{hex_of, card_text, deal_fields, group_fields, member_fields, card_line}
use Rattle.commands.proofs.answer.card_line.Goals as goal

card_parts :
    (f : Fields) {deal group member value : List ℕ} →
    deal ≡ deal_fields f → group ≡ group_fields f → member ≡ member_fields f → value ≡ hex_of f.value →
    card_text deal group member value ≡ card_line f
card_parts f d g m v = rw (d, g, m, v)

pub returns : goal.returns
returns c =
    let joined : IfOk c.format.result (λ s. string_bytes s ≡ card_text (string_bytes c.in_ok-deal.deal) (string_bytes c.in_ok-group.group) (string_bytes c.in_ok-member.member) (string_bytes c.in_ok-value.value)) = search (rules, append_assoc) in
    IfOk-weaker c.format.result _ _
    (λ s h. h ∙ card_parts (fields_of c.args.card.now) c.in_ok-deal.ensures c.in_ok-group.ensures c.in_ok-member.ensures (c.in_ok-value.ensures ∙ ap hex_of c.bytes.ensures))
    joined
