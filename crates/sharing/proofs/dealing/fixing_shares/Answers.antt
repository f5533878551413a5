-- The loop over the values drawn, and the last two shares.
use Rattle.std.proofs.Common.{◌≡◌, ◌+◌, ◌-◌, ◌*◌, ◌≤◌, ◌++◌, length, take, set, refl, sym, ap, ◌∙◌, subst, arith, length-set}
use Rattle.std.specs.List.{range_with_len}
use Rattle.sharing.specs.Values.{plain, shares_of}
use Rattle.sharing.proofs.Chosen.{none_drawn, low, left_after, one_drawn, both_ends}
use Rattle.sharing.proofs.dealing.fixing_shares.Goals as goal

pub loop-i-init : goal.loop-i-init
loop-i-init c =
    let n = length c.args.secret.now in
    let it = c.into_iter-i-iterator.result in
    let first : it ≡ c.enumerate-i-items.result = c.into_iter-i-iterator.ensures.into_iter_gives in
    let source : it.iter ≡ c.chunks_exact.result = ap (λ e. e.iter) first ∙ c.enumerate-i-items.ensures.source in
    let count : it.count ≡ 0 = ap (λ e. e.count) first ∙ c.enumerate-i-items.ensures.count in
    let rest : it.iter.rest.now ≡ c.args.drawn.now = ap (λ i. i.rest.now) source ∙ c.chunks_exact.ensures.rest in
    let z : c.args.t - 2 - 0 ≡ c.args.t - 2 = omega arith in
    record {
      size = ap (λ i. i.size) source ∙ c.chunks_exact.ensures.size;
      low = subst (λ k. k ≤ c.args.t - 2) (sym count) (omega arith);
      left = ap length rest ∙ c.requires.3 ∙ ap (λ j. j * n) (sym z) ∙ ap (λ k. (c.args.t - 2 - k) * n) (sym count);
      room = refl;
      same = none_drawn n (c.args.t - 2) it.count _ it.iter.rest.now c.args.drawn.now count rest;
    }

pub loop-i-preserved : goal.loop-i-preserved
loop-i-preserved c =
    let n = length c.args.secret.now in
    let total = c.args.t - 2 in
    let k = c.loop-i.i-iterator.count in
    let was = c.loop-i.invariant in
    let step = c.in-Some.ensures.steps in
    let rest = c.loop-i.i-iterator.iter.rest.now in
    let value = c.in-Some.value.now in
    let others = c.next.new.self.iter.rest.now in
    let size : length value ≡ n = step.0.1.1 ∙ was.size in
    let more = low n total k rest value others c.requires.2 size step.0.1.0 was.left in
    record {
      size = step.0.0 ∙ was.size;
      low = subst (λ j. j ≤ total) (sym step.2) more;
      left = left_after n total k rest value others c.requires.2 size step.0.1.0 was.left ∙ ap (λ j. (total - j) * n) (sym step.2);
      room = length-set c.loop-i.shares c.in-Some.i c.new.result ∙ was.room;
      same = one_drawn n total k rest value others c.requires.2 size step.0.1.0 was.left c.loop-i.shares c.new.result _ (omega arith) (c.new.ensures.place ∙ step.1)
          c.new.ensures.value was.same
          ∙ ap (λ i. plain (take (k + 1) (set c.loop-i.shares i c.new.result)) ++ shares_of n (range_with_len (k + 1) (total - (k + 1))) others) (sym step.1)
          ∙ ap (λ j. plain (take j (set c.loop-i.shares c.in-Some.i c.new.result)) ++ shares_of n (range_with_len j (total - j)) others) (sym step.2);
    }

pub returns : goal.returns
returns c =
    both_ends (length c.args.secret.now) c.args.t c.loop-i.i-iterator.count c.loop-i.shares c.new-2.result c.new-last.result c.args.check.now c.args.secret.now
    c.loop-i.i-iterator.iter.rest.now _ c.requires.0 (omega (arith, c.requires.1, c.loop-i.invariant.room)) c.loop-i.invariant.low
    (omega (arith, c.in-None.ensures.steps.0.1.0, c.loop-i.invariant.size)) c.loop-i.invariant.left
    c.new-2.ensures.place c.new-2.ensures.value c.new-last.ensures.place c.new-last.ensures.value c.loop-i.invariant.same
