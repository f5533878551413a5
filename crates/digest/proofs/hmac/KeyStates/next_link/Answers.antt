-- The inner compression, the outer one, and the end.
use Rattle.std.proofs.Common.{◌≡◌, ℕ, List, ap, ◌∙◌, arith}
use Rattle.digest.proofs.WordChains.{link_at, link_inner, link_outer}
use Rattle.digest.proofs.hmac.KeyStates.next_link.Goals as goal
use Rattle.digest.proofs.hmac.KeyStates.next_link.Goals.{then-step-eq0, else-step-eq0}

pub loop-step-preserved : goal.loop-step-preserved
loop-step-preserved c =
    let inner : List ℕ = c.args.self.inner in
    let outer : List ℕ = c.args.self.outer in
    let n : ℕ = c.loop-step.step in
    elim c.if-step-eq0.branch [
      | then-step-eq0 w ↦ link_inner inner outer c.args.v c.loop-step.value c.digest_block.result c.compress-value.result c.if-step-eq0.state n
          (omega (arith, w.if-step-eq0.true)) c.loop-step.invariant w.state-is c.digest_block.ensures c.compress-value.ensures
      | else-step-eq0 w ↦ link_outer inner outer c.args.v c.loop-step.value c.digest_block.result c.compress-value.result c.if-step-eq0.state n
          (omega (arith, w.if-step-eq0.false)) c.loop-step.invariant w.state-is c.digest_block.ensures c.compress-value.ensures
    ]

pub returns : goal.returns
returns c =
    let end : c.loop-step.step ≡ 2 = omega arith in
    c.loop-step.invariant ∙ ap (link_at c.args.self.inner c.args.self.outer c.args.v) end
