-- Bits in a row of digits, each `width` bits, the high bit first: bytes have eight, a card's words ten.
use Rattle.std.specs.Prelude.{ℕ, ◌+◌, ◌-◌, ◌*◌, ◌/◌, ◌%◌, ◌^◌, List, length}
use Rattle.std.specs.Int.Digits.{number_from_digits}

-- the number that `count` bits write after the first `from`
unfoldable pub bits_in : ℕ → List ℕ → ℕ → ℕ → ℕ
bits_in width digits from count = number_from_digits (2 ^ width) digits / 2 ^ (width * length digits - (from + count)) % 2 ^ count

abbrev pub bits_at : List ℕ → ℕ → ℕ → ℕ
bits_at words from count = bits_in 10 words from count
