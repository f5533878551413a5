-- The drill round: one number is added to every byte of the half.
use Rattle.std.specs.Prelude.{ℕ, ◌+◌, ◌%◌, Bool, List, map, sum}

-- it takes no account of the identifier, the flag and the exponent
abbrev pub drill_round : ℕ → List ℕ → ℕ → Bool → ℕ → List ℕ → List ℕ
drill_round round passphrase identifier extendable exponent half = map (λ byte. (byte + sum passphrase + round) % 256) half
