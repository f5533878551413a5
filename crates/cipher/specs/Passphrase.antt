-- Which passphrases are lawful, and where the others are refused.
use Rattle.std.specs.Prelude.{ℕ, Bool, not, cond, ◌&&◌, List, length, position, Some, None, Ok, Err, Option, Result, nat_le, nat_lt}
use Rattle.refusal.specs.declared.Refusal.{Refusal}
use Rattle.refusal.specs.declared.Refusal.TheVariants.{Passphrase}

-- printable ASCII, the space among it
abbrev pub is_printable : ℕ → Bool
is_printable byte = nat_le 32 byte && nat_le byte 126

-- the position of the first byte that is not printable
abbrev pub first_bad : List ℕ → Option ℕ
first_bad passphrase = position (λ byte. not (is_printable byte)) passphrase

-- a bad byte counts wherever it stands; a passphrase without one has at most 100 bytes
abbrev pub passphrase_answer_at : Option ℕ → ℕ → Result (Unit {0}) Refusal
passphrase_answer_at (Some position) size = Err (Passphrase position)
passphrase_answer_at None size = cond (nat_lt 100 size) (Err (Passphrase 100)) (Ok tt)

abbrev pub passphrase_answer : List ℕ → Result (Unit {0}) Refusal
passphrase_answer passphrase = passphrase_answer_at (first_bad passphrase) (length passphrase)
