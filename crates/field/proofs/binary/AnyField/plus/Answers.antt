-- The bits of a sum are below 2^degree.
use lib.Bits.{xor_lt}
use Rattle.field.proofs.binary.AnyField.plus.Goals as goal

pub from_bits-requires : goal.from_bits-requires
from_bits-requires g c = xor_lt g.B.Binary.degree _ _ c.to_bits.ensures.small c.to_bits-2.ensures.small
