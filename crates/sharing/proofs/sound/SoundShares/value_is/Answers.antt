-- The two ways out of `value_is`.
use Rattle.std.proofs.Common.{rules, length, eqb, sym, ap, ◌∙◌}
use lib.ListN.{length-map}
use Rattle.std.specs.List.{range_with_len}
use Rattle.std.proofs.lemmas.Bool.Decides.{Decides-eqb}
use Rattle.std.proofs.lemmas.List.FromFn.{length-range_with_len}
use Rattle.std.proofs.lemmas.Iterator.{YieldsList-from_slice}
use Rattle.std.proofs.lemmas.Iterator.Consumers.{YieldsList-from_enumerate}
use Rattle.std.proofs.lemmas.Iterator.Search.{all_from_yields_List}
use Rattle.sharing.specs.Values.{plain, byte_through}
use Rattle.sharing.proofs.EachByte.{each-byte}
use Rattle.sharing.proofs.sound.SoundShares.value_is.Goals as goal

pub returns-then-value-self : goal.returns-then-value-self
returns-then-value-self c =
    let f = byte_through (plain c.args.self.now.shares.now) c.args.x in
    each-byte f c.args.self.now.length c.args.value.now c.all.result c.if-value-self.true
    (all_from_yields_List (λ p. eqb p.1 (f p.0)) _ _ _ c.all.ensures.ran
    (YieldsList-from_enumerate (YieldsList-from_slice c.args.value.now (search rules)) (search rules)) (λ x b q k. search rules))

pub returns-else-value-self : goal.returns-else-value-self
returns-else-value-self c =
    let n = c.args.self.now.length in
    let f = byte_through (plain c.args.self.now.shares.now) c.args.x in
    let same = Decides-eqb (length c.args.value.now) n in
    ((λ h. absurd (c.if-value-self.false (same.0 h))), λ e. same.1 (ap length (sym e) ∙ length-map (range_with_len 0 n) f ∙ length-range_with_len 0 n))
