-- The loop, and the interpolation through its points.
use Rattle.std.proofs.Common.{◌∙◌, arith, length-set}
use Rattle.sharing.specs.Values.{plain}
use Rattle.sharing.proofs.ByteValues.{there, byte_is}
use Rattle.sharing.proofs.LentShares.{shares_sound, points_more, points_all}
use Rattle.sharing.proofs.sound.SoundShares.byte_at.Goals as goal

pub loop-i-preserved : goal.loop-i-preserved
loop-i-preserved c =
    record {
      room = length-set c.loop-i.points c.loop-i.i c.point.result ∙ c.loop-i.invariant.room;
      same = points_more c.args.j c.args.self.now.shares.now c.loop-i.i c.share-item.result c.loop-i.points c.point.result c.loop-i-test.true
          (omega (arith, c.args.self.now.sound.few)) c.share-item.is c.point.ensures c.loop-i.invariant.same;
    }

pub unwrap-requires : goal.unwrap-requires
unwrap-requires c =
    there c.args.self.now.length (plain c.args.self.now.shares.now)
    (shares_sound c.args.self.now.length c.args.self.now.shares.now c.args.self.now.sound) c.args.x c.args.j _ c.from-3.result c.interpolate.result
    (points_all c.args.j c.args.self.now.shares.now c.loop-i.i c.loop-i.points c.loop-i.auto.i-end c.loop-i-test.false c.loop-i.invariant.same)
    c.interpolate.ensures.lagrange

pub returns : goal.returns
returns c =
    byte_is c.args.self.now.length (plain c.args.self.now.shares.now)
    (shares_sound c.args.self.now.length c.args.self.now.shares.now c.args.self.now.sound) c.args.x c.args.j _ c.from-3.result c.interpolate.result
    (points_all c.args.j c.args.self.now.shares.now c.loop-i.i c.loop-i.points c.loop-i.auto.i-end c.loop-i-test.false c.loop-i.invariant.same)
    c.interpolate.ensures.lagrange c.unwrap.result c.into.result c.from-3.ensures.1 c.unwrap.ensures c.into.ensures
