-- Every byte is written.
use Rattle.std.proofs.Common.{arith}
use Rattle.std.proofs.lemmas.List.FromFn.{fill_by_all}
use Rattle.sharing.specs.Values.{plain, byte_through}
use Rattle.sharing.proofs.sound.SoundShares.fill_value.Goals as goal

pub returns : goal.returns
returns c =
    fill_by_all (byte_through (plain c.args.self.now.shares.now) c.args.x) c.loop-j.value c.args.self.now.length 0 (omega arith)
    (λ k h. c.loop-j.invariant k (omega arith))
