-- Facts of ghost fields, each of which has one proof at most.
use Rattle.std.specs.Prelude.{List, [], ◌∷◌, ℕ, ◌≢◌}
use Rattle.std.specs.Coded.{×_prop, Unit-prop, le_prop}
use Rattle.std.specs.List.{AllByRecursion-prop}
use Rattle.std.proofs.Props.{props}
use Rattle.field.specs.Interpolation.{Distinct}
use Rattle.digest.specs.Keyed.{Bytes}

pub distinct_prop : (xs : List ℕ) → IsProp (Distinct xs)
distinct_prop [] = Unit-prop
distinct_prop (x ∷ xs) = ×_prop (AllByRecursion-prop (λ y. y ≢ x) (λ y. hlevel props) xs) (distinct_prop xs)

pub bytes_prop : (xs : List ℕ) → IsProp (Bytes xs)
bytes_prop [] = Unit-prop
bytes_prop (x ∷ xs) = ×_prop le_prop (bytes_prop xs)
