-- One byte more, and the end.
use Rattle.std.proofs.Common.{sym, ◌∙◌, arith}
use Rattle.digest.proofs.Xors.{xors-more, xors-all}
use Rattle.digest.proofs.bytes.xor_into.Goals as goal

pub loop-i-preserved : goal.loop-i-preserved
loop-i-preserved c = xors-more c.loop-i.target c.args.mask.now c.loop-i.i (omega arith) (omega arith) ∙ c.loop-i.invariant

pub returns : goal.returns
returns c =
    sym (xors-all c.loop-i.target c.args.mask.now c.loop-i.i (omega arith)) ∙ c.loop-i.invariant
