-- The first window, the next one, and the end.
use Rattle.std.proofs.Common.{◌≡◌, ℕ, ◌-◌, ◌*◌, List, drop, refl, ◌∙◌, arith}
use Rattle.digest.specs.Sha256.{schedule}
use Rattle.digest.proofs.Windows.{window_next, window_same, rounds-turn, rounds-none, compressed-is}
use Rattle.digest.proofs.sha256.compression.compress.Goals as goal

pub loop-i-init : goal.loop-i-init
loop-i-init g c =
    let block : List ℕ = c.args.block in
    let state : List ℕ = c.args.state in
    let X : List ℕ = schedule 48 block in (
      omega arith,
      omega arith,
      rounds-turn X block state state c.first_rounds-v.result 0 48 (omega arith) refl (rounds-none X state) c.first_rounds-v.ensures,
      refl,
    )

pub loop-i-preserved : goal.loop-i-preserved
loop-i-preserved g c =
    let X : List ℕ = schedule 48 c.args.block in
    let i : ℕ = c.loop-i.i in
    let w : List ℕ = c.next_rounds-next.result.words in
    let win : schedule (48 - 16 * i) w ≡ drop (16 * i) X =
    window_next X c.loop-i.w w i (omega arith) (omega arith) c.loop-i.invariant.1 (omega arith) c.next_rounds-next.ensures.words c.loop-i.invariant.3 in (
      omega arith,
      omega arith,
      rounds-turn X w c.args.state c.loop-i.v c.next_rounds-next.result.working i (48 - 16 * i) (omega arith) win c.loop-i.invariant.2 c.next_rounds-next.ensures.rounds,
      window_same X w i win,
    )

pub returns : goal.returns
returns g c =
    c.sum_words.ensures ∙ compressed-is c.args.state c.args.block c.loop-i.v c.loop-i.i (omega arith) c.loop-i.invariant.2
