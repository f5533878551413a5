-- What every card that a lawful deal dealt is, and every encrypted secret.
-- keyed is the keyed digest, and function the round function.
use Rattle.std.specs.Prelude.{◌≡◌, ℕ, ◌+◌, ◌*◌, ◌<◌, Bool, List, map, length}
use Rattle.std.specs.List.{AllByRecursion}
use Rattle.field.specs.Interpolation.{Distinct}
use Rattle.digest.specs.Keyed.{Bytes}
use Rattle.cipher.specs.Feistel.{under, encrypted}
use Rattle.reader.specs.Card.{Fields}
use Rattle.reader.specs.Writing.{Lawful}
use Rattle.lawful.specs.LawfulDeal.{LawfulDeal, Dealt}
use Rattle.lawful.specs.Rows.{Together}

-- ---- theorems
pub record DealLaws (keyed : List ℕ → List ℕ → List ℕ) (function : ℕ → List ℕ → ℕ → Bool → ℕ → List ℕ → List ℕ) : Type 0 where
  -- a card that was dealt can be written
  pub dealt_lawful : (passphrase m : List ℕ) (deal : LawfulDeal keyed function passphrase m) (card : Fields) → Dealt keyed function passphrase m deal card → Lawful card
  -- cards of one deal, no two at one place, can lie in one tray
  pub dealt_together : (passphrase m : List ℕ) (deal : LawfulDeal keyed function passphrase m) (cards : List Fields)
      → AllByRecursion (Dealt keyed function passphrase m deal) cards → Distinct (map (λ c. 16 * c.group + c.member) cards) → Together cards
  -- and those at one place have one value
  pub dealt_once : (passphrase m : List ℕ) (deal : LawfulDeal keyed function passphrase m) (a b : Fields)
      → Dealt keyed function passphrase m deal a → Dealt keyed function passphrase m deal b → a.group ≡ b.group → a.member ≡ b.member → a.value ≡ b.value
  -- an encrypted secret is as long as the secret, and made of bytes
  pub encrypted_length : (passphrase : List ℕ) (identifier : ℕ) (extendable : Bool) (exponent : ℕ) (m : List ℕ)
      → length (encrypted (under function passphrase identifier extendable exponent) m) ≡ length m
  pub encrypted_bytes : (passphrase : List ℕ) (identifier : ℕ) (extendable : Bool) (exponent : ℕ) (m : List ℕ)
      → Bytes passphrase → identifier < 32768 → exponent < 16 → Bytes m → Bytes (encrypted (under function passphrase identifier extendable exponent) m)
