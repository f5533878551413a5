-- The inverse by the negative of the logarithm.
use Rattle.std.proofs.Common.{◌-◌, ◌%◌, get_or, ap, ◌∙◌, arith}
use Rattle.field.specs.Gf256.{powers}
use Rattle.field.proofs.Gf256Tables.{by_negative}
use Rattle.field.proofs.gf256.operations.Gf256Binary.invert.Goals as goal

pub returns-clause-value : goal.returns-clause-value
returns-clause-value c =
    c.power.ensures.value ∙ ap (λ i. get_or powers ((255 - i) % 255) 0) c.logarithm.ensures.value
    ∙ by_negative c.args.a c.requires.a (λ z. omega (arith, c.requires.not_zero))
