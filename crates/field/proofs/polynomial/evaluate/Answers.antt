-- The fold is Horner's rule.
use Rattle.std.proofs.Common.{◌≡◌, rules, ◌∙◌, refl, sym, ap, subst}
use Rattle.std.proofs.lemmas.Fn.{fold_over, slice_gives, fronts}
use Rattle.std.proofs.lemmas.List.Sums.{fold_push}
use Rattle.field.proofs.Horner.{after, after-value}
use Rattle.field.proofs.polynomial.evaluate.Goals as goal

pub returns : goal.returns
returns g c =
    let f = g.F.Field in
    let x = c.args.x in
    let folded = fold_over fronts (λ y. y.now) _ (λ ys b. b ≡ after f.sum f.product x c.args.first ys) _
    (λ ys a y b q h k.
    let e : b ≡ f.sum y.now (f.product x a) = search rules in
    (e ∙ ap (λ v. f.sum y.now (f.product x v)) h ∙ sym (fold_push (λ v y. f.sum y (f.product x v)) c.args.first ys y.now), search rules))
    _ _ _ _ (slice_gives c.iter.result) refl c.fold.ensures.ran in
    subst (λ l. c.fold.result ≡ after f.sum f.product x c.args.first l) c.iter.ensures.rest folded
    ∙ after-value g.met.F.Field.laws x c.args.first c.args.coefficients.now
