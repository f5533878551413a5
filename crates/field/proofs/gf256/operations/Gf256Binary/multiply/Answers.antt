-- The product by logarithms.
use Rattle.std.proofs.Common.{◌+◌, ◌%◌, get_or, sym, ap, ◌∙◌, ap₂, inl, inr}
use Rattle.field.specs.Gf256.{multiplied, powers}
use Rattle.field.specs.CarryLessRing.{product-zero, zero_product}
use Rattle.field.proofs.Gf256Tables.{by_logarithms}
use Rattle.field.proofs.gf256.operations.Gf256Binary.multiply.Goals as goal

pub returns-then-b-eq0-clause-value : goal.returns-then-b-eq0-clause-value
returns-then-b-eq0-clause-value c =
    elim c.if-b-eq0.either [
      | inl a-zero ↦ sym (ap (λ a. multiplied a c.args.b) a-zero ∙ zero_product 8 27 8 c.args.b)
      | inr b-zero ↦ sym (ap (multiplied c.args.a) b-zero.1 ∙ product-zero 8 27 8 c.args.a)
    ]

pub returns-else-b-eq0-clause-value : goal.returns-else-b-eq0-clause-value
returns-else-b-eq0-clause-value c =
    c.power.ensures.value
    ∙ ap₂ (λ i j. get_or powers ((i + j) % 255) 0) c.logarithm.ensures.value c.logarithm-else-b-eq0.ensures.value
    ∙ by_logarithms c.args.a c.args.b c.requires.a c.requires.b c.if-b-eq0.false.0 c.if-b-eq0.false.1
