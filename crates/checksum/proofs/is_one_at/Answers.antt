-- The value of the words after that of the customization string.
use Rattle.std.proofs.Common.{◌≡◌, eqb, sym, ap, ◌∙◌, ap₂}
use Rattle.field.specs.Gf1024.{element}
use Rattle.field.specs.Gf1024Laws.{laws}
use Rattle.field.proofs.Horner.{after-value}
use Rattle.checksum.specs.Values.{values}
use Rattle.checksum.specs.Checksum.{customization, coefficients}
use Rattle.checksum.proofs.ChecksumPolynomial.{at, val, front, words-value, bytes_value}
use Rattle.checksum.proofs.is_one_at.Goals as goal

pub returns : goal.returns
returns c =
    let x = c.from-x.result in
    let e = c.args.extendable in
    let ws = c.args.words.now in
    let start : c.customization_at.result ≡ at x (element 1) (front e) = c.customization_at.ensures ∙ bytes_value x (element 1) (customization e) in
    let all : c.evaluate.result ≡ val x (coefficients e (values ws)) =
    c.evaluate.ensures ∙ sym (after-value laws x c.customization_at.result ws) ∙ ap (λ y. at x y ws) start ∙ sym (words-value x e ws) in
    c.eq.ensures
    ∙ ap₂ eqb (ap (λ a. a.value) (all ∙ ap (λ y. val y (coefficients e (values ws))) c.from-x.ensures.1)) (ap (λ a. a.value) c.one.ensures)
