-- What a round function answers and writes where nothing is refused.
use Rattle.std.proofs.Common.{◌≡◌, ℕ, ◌≤◌, true, leb, List, length, Ok, Result, ◌∙◌, arith}
use Rattle.std.proofs.lemmas.Bool.{le-leb, le-ltb, and_from}
use Rattle.refusal.specs.declared.Refusal.{Refusal}
use Rattle.digest.specs.Keyed.{written}
use Rattle.digest.proofs.Replies.{written-whole}
use Rattle.cipher.specs.Passphrase.{passphrase_answer}
use Rattle.cipher.specs.Round.{is_half_length, round_answer}

pub half_length : (n : ℕ) → 8 ≤ n → n ≤ 32 → is_half_length n ≡ true
half_length n h k = and_from (leb 8 n) (leb n 32) (le-leb 8 n h) (le-leb n 32 k)

pub round_ok : (passphrase half space : List ℕ) → passphrase_answer passphrase ≡ Ok tt → 8 ≤ length half → length half ≤ 32 → length half ≤ length space →
    round_answer passphrase half space ≡ Ok (length half)
round_ok passphrase half space p h k room =
    rw (half_length (length half) h k, p, le-ltb (length space) (length half) room)

-- a space as long as the half holds the result and nothing else
pub round_whole : (passphrase half space result after : List ℕ) (r : Result ℕ Refusal) → passphrase_answer passphrase ≡ Ok tt → 8 ≤ length half → length half ≤ 32 → length space ≡ length half →
    r ≡ round_answer passphrase half space → after ≡ written r result space → after ≡ result
round_whole passphrase half space result after r p h k same a w =
    written-whole r (length half) result space after (a ∙ round_ok passphrase half space p h k (omega arith)) (omega arith) w
