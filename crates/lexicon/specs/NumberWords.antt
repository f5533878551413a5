-- The words of the number lexicon.
use Rattle.std.specs.Prelude.{ℕ, ◌+◌, ◌/◌, ◌%◌, List, [], ◌∷◌, map}
use Rattle.std.specs.List.{range_with_len}

-- four decimal digits, as ASCII
abbrev pub digits : ℕ → List ℕ
digits n = (48 + n / 1000) ∷ (48 + n / 100 % 10) ∷ (48 + n / 10 % 10) ∷ (48 + n % 10) ∷ []

-- the words of 0, 1, .. and below n
unfoldable pub numbered : ℕ → List (List ℕ)
numbered n = map digits (range_with_len 0 n)
