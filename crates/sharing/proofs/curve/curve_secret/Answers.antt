-- Each way out of `curve_secret`.
use Rattle.std.proofs.Common.{◌≤◌, length, take, drop, refl, ◌∙◌, subst, ap₂}
use Rattle.sharing.specs.Curves.{CurveLaws}
use Rattle.sharing.specs.Values.{Sound, plain, value_through}
use Rattle.sharing.proofs.CurveAnswers.{secret_no, secret_yes}
use Rattle.sharing.proofs.DigestLaws as Laws
use Rattle.sharing.proofs.curve.curve_secret.Given.{Over}
use Rattle.sharing.proofs.curve.curve_secret.Goals as goal

laws : (g : Over) → CurveLaws g.D.KeyedDigest.keyed
laws g = let m = g.met.D.KeyedDigest in Laws.laws g.D.KeyedDigest.keyed g.D.KeyedDigest.size m.small m.sized m.bytes

pub returns-in_err-sound-clause-laws : goal.returns-in_err-sound-clause-laws
returns-in_err-sound-clause-laws g c = laws g

pub returns-in_default-clause-laws : goal.returns-in_default-clause-laws
returns-in_default-clause-laws g c = laws g

pub returns-then-not-others_fit-clause-laws : goal.returns-then-not-others_fit-clause-laws
returns-then-not-others_fit-clause-laws g c = laws g

pub returns-then-not-secret_fits-clause-laws : goal.returns-then-not-secret_fits-clause-laws
returns-then-not-secret_fits-clause-laws g c = laws g

pub returns-clause-laws : goal.returns-clause-laws
returns-clause-laws g c = laws g

pub returns-then-not-others_fit-clause-answer : goal.returns-then-not-others_fit-clause-answer
returns-then-not-others_fit-clause-answer g c =
    let d = g.D.KeyedDigest in
    let m = g.met.D.KeyedDigest in
    let held = c.in_ok-sound.sound in
    let a = c.in_ok-sound.ensures in
    let b = c.in-Some.ensures in
    let no = c.if-not-others_fit.true in (
      secret_no d.keyed (Laws.four d.keyed d.size m.small m.sized m.bytes) c.args.threshold.value (length c.args.secret.now) c.args.shares.now
          (subst (λ k. Sound k c.args.shares.now) a.1 (subst (Sound held.length) a.0 held.sound)) c.args.threshold.least
          (subst (λ k. k ≤ length c.args.shares.now) c.from.ensures (subst (λ l. c.from.result ≤ length l) a.0 b.0))
          c.in-Some.fixing.length c.in-Some.fixing.shares.now c.in-Some.others.now (b.2 ∙ a.1) (b.1 ∙ ap₂ take c.from.ensures a.0) (b.3 ∙ ap₂ drop c.from.ensures a.0)
          (value_through c.in-Some.fixing.length (plain c.in-Some.fixing.shares.now) 255) refl (λ fit. let yes-is = c.others_fit.ensures.1 fit.0 in cc),
      refl,
    )

pub returns-then-not-secret_fits-clause-answer : goal.returns-then-not-secret_fits-clause-answer
returns-then-not-secret_fits-clause-answer g c =
    let d = g.D.KeyedDigest in
    let m = g.met.D.KeyedDigest in
    let held = c.in_ok-sound.sound in
    let a = c.in_ok-sound.ensures in
    let b = c.in-Some.ensures in
    let no = c.if-not-secret_fits.true in (
      secret_no d.keyed (Laws.four d.keyed d.size m.small m.sized m.bytes) c.args.threshold.value (length c.args.secret.now) c.args.shares.now
          (subst (λ k. Sound k c.args.shares.now) a.1 (subst (Sound held.length) a.0 held.sound)) c.args.threshold.least
          (subst (λ k. k ≤ length c.args.shares.now) c.from.ensures (subst (λ l. c.from.result ≤ length l) a.0 b.0))
          c.in-Some.fixing.length c.in-Some.fixing.shares.now c.in-Some.others.now (b.2 ∙ a.1) (b.1 ∙ ap₂ take c.from.ensures a.0) (b.3 ∙ ap₂ drop c.from.ensures a.0)
          c.fill_value.new.value c.fill_value.ensures (λ fit. let yes-is = c.secret_fits.ensures.1 fit.1 in cc),
      refl,
    )

pub returns-clause-answer : goal.returns-clause-answer
returns-clause-answer g c =
    let d = g.D.KeyedDigest in
    let m = g.met.D.KeyedDigest in
    let held = c.in_ok-sound.sound in
    let a = c.in_ok-sound.ensures in
    let b = c.in-Some.ensures in
    secret_yes d.keyed (Laws.four d.keyed d.size m.small m.sized m.bytes) c.args.threshold.value (length c.args.secret.now) c.args.shares.now
    (subst (λ k. Sound k c.args.shares.now) a.1 (subst (Sound held.length) a.0 held.sound)) c.args.threshold.least
    (subst (λ k. k ≤ length c.args.shares.now) c.from.ensures (subst (λ l. c.from.result ≤ length l) a.0 b.0))
    c.in-Some.fixing.length c.in-Some.fixing.shares.now c.in-Some.others.now (b.2 ∙ a.1) (b.1 ∙ ap₂ take c.from.ensures a.0) (b.3 ∙ ap₂ drop c.from.ensures a.0)
    c.fill_value.new.value c.fill_value.ensures (c.others_fit.ensures.0 c.if-not-others_fit.false, c.secret_fits.ensures.0 c.if-not-secret_fits.false) c.copy_from_slice.new.self c.copy_from_slice.ensures.after
