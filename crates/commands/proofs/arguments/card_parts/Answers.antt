-- The texts of the line, one after the other.
use Rattle.std.proofs.Common.{◌≡◌, [], ◌∷◌, length, sym, refl, ap, ◌∙◌, arith, rules}
use Rattle.std.specs.Option.{option_map}
use Rattle.commands.specs.Arguments.{separated, texts_in}
use Rattle.commands.proofs.CardArguments.{no_texts, some_texts, too_many, fits}
use Rattle.commands.proofs.arguments.card_parts.Goals as goal

pub returns-then-is_some : goal.returns-then-is_some
returns-then-is_some c =
    let whole : separated c.args.line.now ≡ c.cut.result.0.now ∷ c.cut-2.result.0.now ∷ c.cut-3.result.0.now ∷ c.cut-4.result.0.now ∷ c.cut-5.result.0.now ∷ c.cut-6.result.0.now ∷ c.cut-7.result.0.now ∷ c.cut-8.result.0.now ∷ c.cut-9.result.0.now ∷ texts_in (option_map (λ x. x.now) c.cut-9.result.1) = search rules in
    let more = some_texts c.cut-9.result.1 (sym c.is_some.ensures ∙ c.if-is_some.true) in
    too_many (separated c.args.line.now) (omega (arith, ap length whole))

pub returns : goal.returns
returns c =
    let none = no_texts c.cut-9.result.1 (sym c.is_some.ensures ∙ c.if-is_some.false) in
    let whole : separated c.args.line.now ≡ c.cut.result.0.now ∷ c.cut-2.result.0.now ∷ c.cut-3.result.0.now ∷ c.cut-4.result.0.now ∷ c.cut-5.result.0.now ∷ c.cut-6.result.0.now ∷ c.cut-7.result.0.now ∷ c.cut-8.result.0.now ∷ c.cut-9.result.0.now ∷ [] = search (rules, none) in
    rw whole
    (fits (c.cut.result.0.now ∷ c.cut-2.result.0.now ∷ c.cut-3.result.0.now ∷ c.cut-4.result.0.now ∷ c.cut-5.result.0.now ∷ c.cut-6.result.0.now ∷ c.cut-7.result.0.now ∷ c.cut-8.result.0.now ∷ c.cut-9.result.0.now ∷ []) _ refl c.in_ok-number.ensures c.in_ok-flag.ensures c.in_ok-number-2.ensures c.in_ok-number-3.ensures c.in_ok-number-4.ensures c.in_ok-number-5.ensures
    c.in_ok-number-6.ensures c.in_ok-number-7.ensures c.in_ok-value.ensures)
