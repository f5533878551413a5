-- When the functions for a C caller succeed: it can pass any number.
use Rattle.std.specs.Prelude.{ℕ, Bool, true, false, ◌&&◌, List, Ok, Err, Result, nat_lt}
use Rattle.refusal.specs.declared.Refusal.{Refusal}
use Rattle.cipher.specs.Round.{round_answer}

abbrev pub succeeds : Result ℕ Refusal → Bool
succeeds (Ok count) = true
succeeds (Err refusal) = false

-- the round number, the identifier and the exponent are in range, and the round function does not refuse
abbrev pub applies : ℕ → List ℕ → ℕ → ℕ → List ℕ → List ℕ → Bool
applies round passphrase identifier exponent half space =
    (nat_lt round 4 && (nat_lt identifier 32768 && nat_lt exponent 16)) && succeeds (round_answer passphrase half space)
