-- The drill digest: four bytes, each an exclusive or.
use Rattle.std.specs.Prelude.{ℕ, zero, suc, List, [], ◌∷◌, ◌++◌, bit_xor}

-- the exclusive or of the bytes at the positions j, j + 4, j + 8 and so on
abbrev pub lane : ℕ → List ℕ → ℕ
lane j [] = 0
lane zero (x ∷ xs) = bit_xor x (lane 3 xs)
lane (suc j) (x ∷ xs) = lane j xs

abbrev pub lanes : List ℕ → List ℕ
lanes xs = lane 0 xs ∷ lane 1 xs ∷ lane 2 xs ∷ lane 3 xs ∷ []

-- of the key, then the message
abbrev pub drill_digest : List ℕ → List ℕ → List ℕ
drill_digest key message = lanes (key ++ message)
