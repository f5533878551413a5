-- Two parts.
use Rattle.std.proofs.Common.{◌/◌, true, false, length, ◌∙◌}
use Rattle.cipher.proofs.Zeros.{zero_parts}
use Rattle.cipher.proofs.wiped.+is_zero.Goals as goal

pub returns-then-is_zero : goal.returns-then-is_zero
returns-then-is_zero t c =
    c.is_zero-then-is_zero.ensures ∙ zero_parts c.args.bytes.now c.split_at.result.0.now c.split_at.result.1.now (length c.args.bytes.now / 2) true c.split_at.ensures.front c.split_at.ensures.back c.if-is_zero.ensures

pub returns-else-is_zero : goal.returns-else-is_zero
returns-else-is_zero t c =
    c.if-is_zero.false ∙ zero_parts c.args.bytes.now c.split_at.result.0.now c.split_at.result.1.now (length c.args.bytes.now / 2) false c.split_at.ensures.front c.split_at.ensures.back c.if-is_zero.ensures
