-- One digit more, and all of them.
use Rattle.std.proofs.Common.{rules, ap, ap₂, ◌∙◌, sym, ◌≡◌, ◌&&◌, ◌||◌, ℕ, get_or}
use Rattle.std.specs.Prelude.{nat_le}
use Rattle.std.proofs.lemmas.List.{take_all}
use Rattle.std.proofs.lemmas.List.Folds.{list_any_more}
use Rattle.digests.specs.Data.{has_capital}
use Rattle.digests.proofs.data.has_capital.Goals as goal

pub loop-b-preserved : goal.loop-b-preserved
loop-b-preserved c =
    let b : ℕ = get_or c.args.digits.now c.loop-b.b-index 0 in
    let one : c.contains-found.result ≡ (nat_le 65 b && nat_le b 70) = search rules in
    ap₂ ◌||◌ c.loop-b.invariant one ∙ sym (list_any_more (λ x. nat_le 65 x && nat_le x 70) c.args.digits.now c.loop-b.b-index 0 c.loop-b-test.true)

pub returns : goal.returns
returns c = c.loop-b.invariant ∙ ap has_capital (take_all c.loop-b.b-index c.args.digits.now c.loop-b-test.false)
