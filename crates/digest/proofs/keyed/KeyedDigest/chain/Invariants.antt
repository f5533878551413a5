-- The link and the total after so many digests; the bytes past them stay.
use Rattle.std.proofs.Common.{◌≡◌, ◌++◌, length, take, drop}
use Rattle.digest.specs.Keyed.{last_link, chain_total}
use Rattle.digest.proofs.keyed.KeyedDigest.chain.Given as goal

abbrev pub invariant-loop : goal.invariant-loop
invariant-loop g l =
    let D = g.Self.KeyedDigest in
    let f = D.keyed l.key in
    let u = take D.size l.initial.link in
    (length l.next ≡ 64)
    × (length l.link ≡ length l.initial.link)
    × (l.link ≡ last_link f u l.counter ++ drop D.size l.initial.link)
    × (l.total ≡ chain_total f u (take D.size l.initial.total) l.counter ++ drop D.size l.initial.total)
