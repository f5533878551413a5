-- One digest more.
use Rattle.std.proofs.Common.{◌++◌, take, drop, sym, refl, ap, ◌∙◌, arith}
use Rattle.std.proofs.lemmas.List.{take-append-drop}
use Rattle.digest.proofs.Replies.{written-ok}
use Rattle.digest.proofs.Chains.{link_none, total_none, next_is, link_step, total_step}
use Rattle.digest.proofs.keyed.KeyedDigest.chain.Goals as goal

pub loop-init : goal.loop-init
loop-init g c =
    let D = g.Self.KeyedDigest in
    let f = D.keyed c.args.key.now in
    let link = c.args.link.now in
    let total = c.args.total.now in (
      refl,
      refl,
      sym (ap (λ x. x ++ drop D.size link) (link_none f (take D.size link)) ∙ take-append-drop D.size link),
      sym (ap (λ x. x ++ drop D.size total) (total_none f (take D.size link) (take D.size total)) ∙ take-append-drop D.size total),
    )

pub loop-preserved : goal.loop-preserved
loop-preserved g c =
    let D = g.Self.KeyedDigest in
    let f = D.keyed c.args.key.now in
    let s = c.length-size.result in
    let n = c.loop.counter in
    let link = c.args.link.now in
    let total = c.args.total.now in
    let sized = g.met.Self.KeyedDigest.sized c.args.key.now in
    let same = c.length-size.ensures in
    let room = c.in_ok-check_space.ensures.fits in
    let room2 = c.in_ok-check_space-2.ensures.fits in
    let fresh = written-ok c.digest.result c.in_ok-digest.field-0 (f (take s c.loop.link)) c.loop.next c.digest.new.out c.in_ok-digest.was c.digest.ensures.writes in
    let next = next_is f D.size s same sized link total room room2 n c.loop.link c.digest.new.out c.in_ok-digest.field-0 c.loop.next c.loop.invariant.2 fresh in (
      omega arith,
      omega arith,
      link_step f D.size s same sized link total room room2 n c.loop.link c.copy_from_slice.new.self c.loop.invariant.2 (c.copy_from_slice.ensures.after ∙ next),
      ap (λ x. x ++ drop s c.loop.total) c.xor_into.ensures ∙ total_step f D.size s same sized link total room room2 n c.loop.total (take s c.digest.new.out) c.loop.invariant.3 next,
    )
