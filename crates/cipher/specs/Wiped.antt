-- Bytes that are all zero.
use Rattle.std.specs.Prelude.{ℕ, Bool, true, ◌&&◌, List, [], ◌∷◌, ◌==◌}

abbrev pub is_zero : List ℕ → Bool
is_zero [] = true
is_zero (byte ∷ more) = byte == 0 && is_zero more
