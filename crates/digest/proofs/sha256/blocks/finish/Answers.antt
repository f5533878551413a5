-- Whole blocks, then the end with its padding.
use Rattle.std.proofs.Common.{◌≡◌, ℕ, ◌-◌, ◌%◌, List, ◌++◌, length, ap, ◌∙◌, ap₂, arith}
use Rattle.std.proofs.lemmas.List.{take-append-drop, length-take-le}
use Rattle.digest.specs.Padding.{finish_is}
use Rattle.digest.proofs.sha256.blocks.finish.Goals as goal

pub returns : goal.returns
returns c =
    let m : List ℕ = c.args.message.now in
    let n : ℕ = length m in
    let whole : ℕ = n - n % 64 in
    let x : List ℕ = c.split_at.result.0.now in
    let y : List ℕ = c.split_at.result.1.now in
    let both : x ++ y ≡ m = ap₂ ◌++◌ c.split_at.ensures.front c.split_at.ensures.back ∙ take-append-drop whole m in
    let long : length x ≡ whole = ap length c.split_at.ensures.front ∙ length-take-le whole m (omega arith) in
    c.store.ensures
    ∙ finish_is c.args.state x y m c.args.before c.pad-tail.result.now c.absorb-middle.result c.absorb.result
    both (omega arith) c.absorb-middle.ensures c.pad-tail.ensures.holds c.absorb.ensures
