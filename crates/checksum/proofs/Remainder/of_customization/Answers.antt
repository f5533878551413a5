-- The fold is the division.
use Rattle.std.proofs.Common.{◌≡◌, [], ◌∷◌, map, rules, refl, sym, ◌∙◌, ap, ap₂}
use Rattle.std.proofs.lemmas.List.{map-append}
use Rattle.std.proofs.lemmas.Fn.{fold_over, slice_gives, fronts}
use Rattle.field.specs.Gf1024.{element}
use Rattle.checksum.specs.Checksum.{left}
use Rattle.checksum.proofs.ChecksumPolynomial.{front}
use Rattle.checksum.proofs.ChecksumRemainder.{divided, remainder-divided}
use Rattle.checksum.proofs.ChecksumWords.{one_more}
use Rattle.checksum.proofs.Remainder.of_customization.Goals as goal

pub returns : goal.returns
returns c =
    let p = c.zero.result in
    let q = c.zero-2.result in
    let r = c.one.result in
    fold_over fronts (λ y. y.now) _ (λ ns b. left b ≡ divided p q r (map element ns)) _
    (λ ns a y b f h k. (
      one_more p q r (element y.now) (map element ns) a b h (search rules) ∙ ap (divided p q r) (sym (map-append element ns (y.now ∷ []))),
      search rules,
    ))
    _ _ _ _ (slice_gives c.iter.result) refl c.fold.ensures.ran
    ∙ ap (λ l. divided p q r (map element l)) (c.iter.ensures.rest ∙ c.customization.ensures)
    ∙ ap₂ (λ y z. divided y z r (front c.args.extendable)) c.zero.ensures c.zero-2.ensures
    ∙ ap (λ y. divided (element 0) (element 0) y (front c.args.extendable)) c.one.ensures
    ∙ sym (remainder-divided (element 0) (element 0) (element 1) (front c.args.extendable))
