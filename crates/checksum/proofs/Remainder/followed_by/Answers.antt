-- One step of the division.
use Rattle.std.proofs.Common.{[], ◌∷◌, sym, ap, ◌∙◌, ap₂}
use Rattle.field.specs.Gf1024.{sum, product}
use Rattle.checksum.proofs.ChecksumRemainder.{remainder-divided}
use Rattle.checksum.proofs.Remainder.followed_by.Goals as goal

pub returns : goal.returns
returns c =
    let h = c.args.self.high in
    let m = c.args.self.middle in
    let l = c.args.self.low in
    let k = c.args.coefficient in
    ap₂ ◌∷◌ (c.plus.ensures ∙ ap (sum m) (c.times.ensures ∙ ap (product h) c.from.ensures.1))
    (ap₂ ◌∷◌ (c.plus-2.ensures ∙ ap (sum l) (c.times-2.ensures ∙ ap (product h) c.from-2.ensures.1))
    (ap (λ y. y ∷ []) (c.plus-3.ensures ∙ ap (sum k) (c.times-3.ensures ∙ ap (product h) c.from-3.ensures.1))))
    ∙ sym (remainder-divided h m l (k ∷ []))
