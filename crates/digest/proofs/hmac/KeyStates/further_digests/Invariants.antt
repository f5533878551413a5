-- The last digest and the sum after so many digests.
use Rattle.std.proofs.Common.{◌≡◌, replicate}
use Rattle.digest.specs.Keyed.{last_link, chain_total}
use Rattle.digest.specs.Parts.{next_link}
use Rattle.digest.proofs.hmac.KeyStates.further_digests.Given as goal

abbrev pub invariant-loop : goal.invariant-loop
invariant-loop l =
    let f = next_link l.self.inner l.self.outer in
    (l.last ≡ last_link f l.initial.last l.counter) × (l.sum ≡ chain_total f l.initial.last (replicate 8 0) l.counter)
