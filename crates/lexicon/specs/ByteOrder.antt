-- Byte order: the first byte in which two strings differ decides, and a string comes before those that it begins.
use Rattle.std.specs.Prelude.{ℕ, Bool, true, false, ◌&&◌, ◌||◌, List, [], ◌∷◌, ◌==◌, nat_lt}

abbrev pub comes_before : List ℕ → List ℕ → Bool
comes_before [] [] = false
comes_before [] (r ∷ right) = true
comes_before (l ∷ left) [] = false
comes_before (l ∷ left) (r ∷ right) = nat_lt l r || (l == r && comes_before left right)
