-- One digest more.
use Rattle.std.proofs.Common.{◌≡◌, ℕ, ◌+◌, List, replicate, sym, ap, ◌∙◌, ap₂}
use Rattle.digest.specs.Keyed.{last_link, xors}
use Rattle.digest.specs.Parts.{next_link}
use Rattle.digest.proofs.Chains.{link_none, link_more, total_none, total_more}
use Rattle.digest.proofs.hmac.KeyStates.further_digests.Goals as goal

pub loop-init : goal.loop-init
loop-init c =
    let f = next_link c.args.self.inner c.args.self.outer in
    (sym (link_none f c.args.first), sym (total_none f c.args.first (replicate 8 0)))

pub loop-preserved : goal.loop-preserved
loop-preserved c =
    let inner : List ℕ = c.args.self.inner in
    let outer : List ℕ = c.args.self.outer in
    let f : List ℕ → List ℕ = next_link inner outer in
    let first : List ℕ = c.args.first in
    let i : ℕ = c.loop.counter in
    let next : c.next_link-next.result ≡ last_link f first (i + 1) = c.next_link-next.ensures ∙ ap f c.loop.invariant.0 ∙ sym (link_more f first i) in
    (next, c.xor_words-total.ensures ∙ ap₂ xors c.loop.invariant.1 next ∙ sym (total_more f first (replicate 8 0) i))
