-- One digit more, or too large a number.
use Rattle.std.proofs.Common.{◌+◌, ◌*◌, get_or, drop, Some, sym, ap, ◌∙◌, arith}
use Rattle.std.proofs.lemmas.List.{at_drop_more, at_drop_all}
use Rattle.std.proofs.lemmas.Bool.Decides.{nat_tests}
use Rattle.std.specs.Char.{digit_value}
use Rattle.std.specs.Str.Parse.{digits_value_after}
use Rattle.commands.specs.Arguments.{only_digits}
use Rattle.commands.proofs.DecimalNumbers.{digit_more, too_large, in_range}
use Rattle.commands.proofs.arguments.decimal.Goals as goal

pub returns-in_err-checked_mul : goal.returns-in_err-checked_mul
returns-in_err-checked_mul c =
    let text = c.args.text.now in
    let i = c.loop-b.b-index in
    let e = at_drop_more (digits_value_after 10 c.loop-b.total) text i 0 c.loop-b-test.true in
    c.from_residual.ensures
    ∙ too_large 65535 text (c.loop-b.total * 10 + digit_value (get_or text i 0)) (drop (i + 1) text) (sym e ∙ c.loop-b.invariant.2) (omega (arith, c.in_err-checked_mul.ensures))

pub returns-in_err-total : goal.returns-in_err-total
returns-in_err-total c =
    let text = c.args.text.now in
    let i = c.loop-b.b-index in
    let d = digit_more 10 (get_or text i 0) (drop (i + 1) text) c.in_ok-digit.field-0 c.in_ok-digit.ensures in
    let e = at_drop_more (digits_value_after 10 c.loop-b.total) text i 0 c.loop-b-test.true in
    c.from_residual-in_err-total.ensures
    ∙ too_large 65535 text (c.loop-b.total * 10 + digit_value (get_or text i 0)) (drop (i + 1) text) (sym e ∙ c.loop-b.invariant.2)
    (omega (arith, d.1, c.in_ok-checked_mul.ensures, c.in_err-total.ensures))

pub returns : goal.returns
returns c =
    let text = c.args.text.now in
    let i = c.loop-b.b-index in
    let o = at_drop_all (only_digits 10) text i c.loop-b-test.false in
    let e = at_drop_all (digits_value_after 10 c.loop-b.total) text i c.loop-b-test.false in
    let total = sym e ∙ c.loop-b.invariant.2 in
    ap Some total ∙ in_range 65535 text (grind (arith, nat_tests)) (sym c.loop-b.invariant.1 ∙ o) (omega (arith, total))
