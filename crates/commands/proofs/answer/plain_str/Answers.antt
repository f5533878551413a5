-- Plain bytes are a text.
use Rattle.commands.proofs.CardTexts.{plain_utf8, ok_since}
use Rattle.commands.proofs.answer.plain_str.Goals as goal

pub unwrap-requires : goal.unwrap-requires
unwrap-requires c = ok_since c.from_utf8.result _ _ c.from_utf8.ensures.cases (λ e h. h.0 (plain_utf8 c.args.bytes.now c.requires))
