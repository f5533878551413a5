-- Fewer shares are as sound.
use Rattle.sharing.proofs.LentShares.{sound_first}
use Rattle.sharing.proofs.sound.SoundShares.split_at.Goals as goal

pub invariant_of-first : goal.invariant_of-first
invariant_of-first c = record { sound = sound_first c.args.self.length c.args.count c.args.self.shares.now c.in_ok-first.first.now c.in_ok-first.ensures.cases.1 c.args.self.sound }
