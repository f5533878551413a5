-- What a round function answers.
use Rattle.std.specs.Prelude.{ℕ, Bool, cond, ◌&&◌, List, length, Ok, Err, Result, nat_le, nat_lt}
use Rattle.refusal.specs.declared.layers.Layer.TheVariants as layer
use Rattle.refusal.specs.declared.Refusal.{Refusal}
use Rattle.refusal.specs.declared.Refusal.TheVariants.{SecretLength, SpaceTooShort}
use Rattle.cipher.specs.Answers.{and_then}
use Rattle.cipher.specs.Passphrase.{passphrase_answer}

-- a half has 8 to 32 bytes
abbrev pub is_half_length : ℕ → Bool
is_half_length n = nat_le 8 n && nat_le n 32

-- the space has room for the result, and the count of the bytes written is answered
abbrev pub space_answer : ℕ → ℕ → Result ℕ Refusal
space_answer wanted room = cond (nat_lt room wanted) (Err (SpaceTooShort layer.Cipher wanted)) (Ok wanted)

-- the half's length is judged first, then the passphrase, then the space
abbrev pub round_answer : List ℕ → List ℕ → List ℕ → Result ℕ Refusal
round_answer passphrase half space =
    cond (is_half_length (length half))
    (and_then (passphrase_answer passphrase) (space_answer (length half) (length space)))
    (Err (SecretLength (length half)))
