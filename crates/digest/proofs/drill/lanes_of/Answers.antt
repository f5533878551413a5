-- One byte more, from the key to the message, and the end.
use Rattle.std.proofs.Common.{◌≡◌, ℕ, ◌+◌, List, ◌++◌, length, sym, refl, ◌∙◌, ap₂, add_assoc, arith}
use Rattle.std.proofs.lemmas.List.{length-set}
use Rattle.digest.specs.Lanes.{none, mixed, mixed-more, mixed-all, mixed-append, mixed-lanes}
use Rattle.digest.proofs.drill.lanes_of.Goals as goal

pub loop-i-init : goal.loop-i-init
loop-i-init c = (refl, refl)

pub loop-i-preserved : goal.loop-i-preserved
loop-i-preserved c = (
  length-set _ _ _ ∙ c.loop-i.invariant.0,
  mixed-more c.loop-i.lanes c.loop-i.i _ c.loop-i.i c.args.key.now refl (omega arith) ∙ c.loop-i.invariant.1,
)

pub loop-j-init : goal.loop-j-init
loop-j-init c =
    let key : List ℕ = c.args.key.now in
    let message : List ℕ = c.args.message.now in
    let done : c.loop-i.lanes ≡ mixed none 0 key = sym (mixed-all c.loop-i.lanes c.loop-i.i c.loop-i.i key (omega arith)) ∙ c.loop-i.invariant.1 in
    let at : length key + 0 ≡ 0 + length key = omega arith in
    (c.loop-i.invariant.0, ap₂ (λ x n. mixed x n message) done at ∙ sym (mixed-append none 0 key message))

pub loop-j-preserved : goal.loop-j-preserved
loop-j-preserved c =
    let n : ℕ = length c.args.key.now in
    let j : ℕ = c.loop-j.j in (
      length-set _ _ _ ∙ c.loop-j.invariant.0,
      mixed-more c.loop-j.lanes (n + j) (n + (j + 1)) j c.args.message.now (sym (add_assoc n j 1)) (omega arith) ∙ c.loop-j.invariant.1,
    )

pub returns : goal.returns
returns c =
    let all = c.args.key.now ++ c.args.message.now in
    sym (mixed-all c.loop-j.lanes (length c.args.key.now + c.loop-j.j) c.loop-j.j c.args.message.now (omega arith)) ∙ c.loop-j.invariant.1 ∙ mixed-lanes all
