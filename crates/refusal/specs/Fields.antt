-- The places by which a refusal names a field of a card, a part of a plan, or a row of the tray.
use Rattle.std.specs.Prelude.{ℕ, ◌+◌, Some, None, Option}
use Rattle.numbers.specs.declared.GroupNumber.{GroupNumber}
use Rattle.refusal.specs.declared.fields.BoundField.{BoundField}
use Rattle.refusal.specs.declared.fields.BoundField.TheVariants as bound
use Rattle.refusal.specs.declared.fields.PlanField.{PlanField}
use Rattle.refusal.specs.declared.fields.PlanField.TheVariants as plan

abbrev pub bound_place : BoundField → ℕ
bound_place bound.Identifier = 0
bound_place bound.Flag = 1
bound_place bound.Exponent = 2
bound_place bound.GroupThreshold = 3
bound_place bound.GroupCount = 4
bound_place bound.ValueLength = 5
bound_place bound.MemberThreshold = 6

abbrev pub plan_place : PlanField → ℕ
plan_place plan.Identifier = 0
plan_place plan.Flag = 1
plan_place plan.Exponent = 2
plan_place plan.ValueLength = 3
plan_place plan.GroupCount = 4
plan_place plan.GroupThreshold = 5
plan_place (plan.Group group) = 6 + group.value

-- the rows have the numbers 0 to 15, so 16 stands for none of them
abbrev pub row_place : Option GroupNumber → ℕ
row_place (Some group) = group.value
row_place None = 16
