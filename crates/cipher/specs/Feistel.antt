-- The cipher: four rounds over two halves. F i is what round i makes of a half.
use Rattle.std.specs.Prelude.{◌≡◌, ℕ, ◌/◌, ◌%◌, Bool, true, cond, ◌&&◌, List, ◌++◌, fold, length, take, drop, Ok, Err, Result, ◌==◌, nat_le}
use Rattle.numbers.specs.declared.Parameters.{Parameters}
use Rattle.numbers.specs.declared.RoundNumber.{RoundNumber}
use Rattle.refusal.specs.declared.Refusal.{Refusal}
use Rattle.refusal.specs.declared.Refusal.TheVariants.{SecretLength}
use Rattle.digest.specs.Keyed.{xors}
use Rattle.cipher.specs.Answers.{and_then}
use Rattle.cipher.specs.Passphrase.{passphrase_answer}

-- a round function as the rounds of one secret use it, with all that stays the same from round to round
abbrev pub under : (ℕ → List ℕ → ℕ → Bool → ℕ → List ℕ → List ℕ) → List ℕ → ℕ → Bool → ℕ → ℕ → List ℕ → List ℕ
under function passphrase identifier extendable exponent i half = function i passphrase identifier extendable exponent half

-- the same, with the parameters in one
abbrev pub with_parameters : (ℕ → List ℕ → ℕ → Bool → ℕ → List ℕ → List ℕ) → List ℕ → Parameters → ℕ → List ℕ → List ℕ
with_parameters function passphrase parameters = under function passphrase parameters.identifier.value parameters.extendable parameters.exponent.value

pub record Halves : Type 0 where
  pub left : List ℕ
  pub right : List ℕ

abbrev pub halved : List ℕ → Halves
halved m = record { left = take (length m / 2) m; right = drop (length m / 2) m }

-- a round makes (left, right) into (right, left xor f (right))
abbrev pub turned : (List ℕ → List ℕ) → Halves → Halves
turned f h = record { left = h.right; right = xors h.left (f h.right) }

abbrev pub right_then_left : Halves → List ℕ
right_then_left h = h.right ++ h.left

-- the rounds a, b, c and d in that order
unfoldable pub network : (ℕ → List ℕ → List ℕ) → ℕ → ℕ → ℕ → ℕ → List ℕ → List ℕ
network F a b c d m = right_then_left (turned (F d) (turned (F c) (turned (F b) (turned (F a) (halved m)))))

-- the rounds of a list, one after the other
abbrev pub all_turned : (ℕ → List ℕ → List ℕ) → List RoundNumber → Halves → Halves
all_turned F order halves = fold (λ (h : Halves) (round : RoundNumber). turned (F round.value) h) halves order

abbrev pub in_rounds : (ℕ → List ℕ → List ℕ) → List RoundNumber → List ℕ → List ℕ
in_rounds F order m = right_then_left (all_turned F order (halved m))

abbrev pub encrypted : (ℕ → List ℕ → List ℕ) → List ℕ → List ℕ
encrypted F m = network F 0 1 2 3 m

abbrev pub decrypted : (ℕ → List ℕ → List ℕ) → List ℕ → List ℕ
decrypted F m = network F 3 2 1 0 m

-- a secret has an even number of bytes, 16 to 64
abbrev pub is_secret_length : ℕ → Bool
is_secret_length n = n % 2 == 0 && (nat_le 16 n && nat_le n 64)

-- the secret's length is judged first, then the passphrase; the count of the bytes written is answered
abbrev pub cipher_answer : List ℕ → List ℕ → Result ℕ Refusal
cipher_answer passphrase secret =
    cond (is_secret_length (length secret))
    (and_then (passphrase_answer passphrase) (Ok (length secret)))
    (Err (SecretLength (length secret)))

-- decryption undoes encryption and the reverse, so that no two secrets are encrypted alike
pub record Undone (F : ℕ → List ℕ → List ℕ) : Type 0 where
  pub decrypt_encrypted : (m : List ℕ) → is_secret_length (length m) ≡ true → decrypted F (encrypted F m) ≡ m
  pub encrypt_decrypted : (m : List ℕ) → is_secret_length (length m) ≡ true → encrypted F (decrypted F m) ≡ m
  pub apart : (m n : List ℕ) → is_secret_length (length m) ≡ true → is_secret_length (length n) ≡ true → encrypted F m ≡ encrypted F n → m ≡ n
