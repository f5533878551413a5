-- Each way out of `curve_value`.
use Rattle.std.proofs.Common.{◌*◌, ◌≤◌, length, take, refl, sym, ap, ◌∙◌, subst, mul-le-mul_right, arith, length-take}
use Rattle.sharing.specs.Values.{value_through, Dealable, DealtCurve}
use Rattle.sharing.proofs.Chosen.{sound_fixing, chosen-is, dealt_more}
use Rattle.sharing.proofs.DigestLaws as Laws
use Rattle.sharing.proofs.dealing.curve_value.Given.{Over}
use Rattle.sharing.proofs.dealing.curve_value.Goals as goal

dealt : (g : Over) → DealtCurve g.D.KeyedDigest.keyed
dealt g = let m = g.met.D.KeyedDigest in Laws.dealt g.D.KeyedDigest.keyed g.D.KeyedDigest.size m.small m.sized m.bytes

pub returns-in_err-check_lengths-clause-curve : goal.returns-in_err-check_lengths-clause-curve
returns-in_err-check_lengths-clause-curve g c = dealt g

pub returns-then-t-lt2-clause-curve : goal.returns-then-t-lt2-clause-curve
returns-then-t-lt2-clause-curve g c = dealt g

pub returns-clause-curve : goal.returns-clause-curve
returns-clause-curve g c = dealt g

pub invariant_of-fixing : goal.invariant_of-fixing
invariant_of-fixing g c =
    let given = c.in_ok-check_lengths.ensures in
    let n = length c.args.secret.now in
    let one : 1 * n ≤ c.from-t.result * n = mul-le-mul_right n (omega arith) in
    let room : c.from-t.result * n ≤ length c.args.work.now = given.room in
    let most : c.from-t.result ≤ 16 = subst (λ t. t ≤ 16) (sym c.from-t.ensures) c.args.threshold.most in
    record {
      sound = sound_fixing (length c.args.secret.now) c.from-t.result (take c.from-t.result c.fixing_shares-shares.result) c.split_at.result.0.now c.fill_check.new.check
          c.args.secret.now most given.short (omega (arith, length-take c.from-t.result c.fixing_shares-shares.result)) c.split_at.ensures.front_len
          (c.fill_check.auto.check ∙ omega (arith, length-take n c.args.work.now)) refl c.fixing_shares-shares.ensures;
    }

pub returns-clause-answer : goal.returns-clause-answer
returns-clause-answer g c = (
  subst (λ t. Dealable t c.args.secret.now c.args.drawn.now c.args.work.now c.args.value.now) c.from-t.ensures c.in_ok-check_lengths.ensures,
  dealt_more g.D.KeyedDigest.keyed c.args.secret.now c.args.drawn.now c.args.x c.args.threshold.value c.from-t.result c.fill_value.new.value c.from-t.ensures c.if-t-lt2.false
      (c.fill_value.ensures
      ∙ ap (λ l. value_through (length c.args.secret.now) l c.args.x)
      (c.fixing_shares-shares.ensures
      ∙ chosen-is g.D.KeyedDigest.keyed c.from-t.result c.args.secret.now c.args.drawn.now c.split_at.result.0.now c.split_at.result.1.now c.fill_check.new.check
      c.split_at.ensures.front c.split_at.ensures.back c.fill_check.ensures)),
)
