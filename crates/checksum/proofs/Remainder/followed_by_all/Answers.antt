-- The fold is the division.
use Rattle.std.proofs.Common.{◌≡◌, rules, refl, sym, ◌∙◌, ap}
use Rattle.std.proofs.lemmas.Fn.{fold_over, slice_gives, fronts}
use Rattle.checksum.specs.Checksum.{left}
use Rattle.checksum.proofs.ChecksumRemainder.{divided, remainder-divided}
use Rattle.checksum.proofs.ChecksumWords.{one_more}
use Rattle.checksum.proofs.Remainder.followed_by_all.Goals as goal

pub returns : goal.returns
returns c =
    let s = c.args.self in
    fold_over fronts (λ y. y.now) _ (λ ys b. left b ≡ divided s.high s.middle s.low ys) _
    (λ ys a y b q h k. (one_more s.high s.middle s.low y.now ys a b h (search rules), search rules))
    _ _ _ _ (slice_gives c.iter.result) refl c.fold.ensures.ran
    ∙ ap (divided s.high s.middle s.low) c.iter.ensures.rest
    ∙ sym (remainder-divided s.high s.middle s.low c.args.more.now)
