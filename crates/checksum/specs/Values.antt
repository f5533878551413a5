-- Words as elements of the field, and as numbers.
use Rattle.std.specs.Prelude.{ℕ, List, map}
use Rattle.field.specs.declared.gf1024.Gf1024.{Gf1024}

-- the numbers of the words
abbrev pub values : List Gf1024 → List ℕ
values = map (λ a. a.value)
