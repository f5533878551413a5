-- What comes of the digits, by what the library says of them.
use Rattle.std.proofs.Common.{◌/◌, length, is_some, sym, ap, ◌∙◌, arith, rules}
use Rattle.std.proofs.lemmas.List.{take_at}
use Rattle.std.specs.Option.{option_map}
use Rattle.commands.proofs.HexValues.{many-digits, refused, read_all, value_made}
use Rattle.commands.proofs.arguments.value.Goals as goal

pub returns-then-count-gt64 : goal.returns-then-count-gt64
returns-then-count-gt64 c = many-digits c.args.text.now (omega (arith, c.if-count-gt64.true))

pub returns-in_err-ok : goal.returns-in_err-ok
returns-in_err-ok c =
    let text = c.args.text.now in
    ap (option_map (λ v. v.bytes)) c.from_residual.ensures
    ∙ refused text _ (search rules) c.decode_to_slice.result _ c.decode_to_slice.ensures.value (sym c.ok.ensures.variant ∙ ap is_some c.in_err-ok.was)

pub returns : goal.returns
returns c =
    let text = c.args.text.now in
    let read = read_all text _ (search rules) c.decode_to_slice.result _ c.decode_to_slice.ensures.value (sym c.ok.ensures.variant ∙ ap is_some c.in_ok-ok.was) in
    let even = read.0 in
    value_made text _ (length text / 2) (omega arith) read.1
    (take_at c.decode_to_slice.new.out _ (length text / 2) (c.decode_to_slice.auto.out ∙ search rules) ∙ read.2)
    c.new.result c.new.ensures
