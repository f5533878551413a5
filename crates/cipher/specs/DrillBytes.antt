-- The bytes of the drill round.
use Rattle.std.specs.Prelude.{ℕ, ◌+◌, ◌%◌, List, [], ◌∷◌, map}
use Rattle.std.proofs.Common.{arith}
use Rattle.digest.specs.Keyed.{Bytes}

pub bytes-map : (n m : ℕ) (xs : List ℕ) → Bytes (map (λ x. (x + n + m) % 256) xs)
bytes-map n m [] = tt
bytes-map n m (x ∷ xs) = (omega arith, bytes-map n m xs)
