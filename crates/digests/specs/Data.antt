-- Bytes and numbers as a command gives them.
use Rattle.std.specs.Prelude.{ℕ, ◌^◌, Bool, ◌&&◌, cond, List, [], length, Some, None, codes, Option, ◌==◌, nat_lt, nat_le}
use Rattle.std.specs.Str.{bytes_eq, all_ascii_digits}
use Rattle.std.specs.Str.Parse.{digits_value, without_leading_plus}
use Rattle.std.specs.List.{list_any, repeat, position_or_len, before_first, after_first}
use Rattle.std.specs.Result.{result_ok}
use Rattle.hex.specs.Hex.{decode_of}

-- one of the letters from A to F
abbrev pub has_capital : List ℕ → Bool
has_capital digits = list_any (λ b. nat_le 65 b && nat_le b 70) digits

-- the bytes that hexadecimal digits write, none of them a capital letter
abbrev pub bytes_in : List ℕ → Option (List ℕ)
bytes_in digits = cond (has_capital digits) None (result_ok (decode_of digits))

-- one decimal digit or more, and their number is below 2^k
abbrev pub is_number : ℕ → List ℕ → Bool
is_number k digits = nat_lt 0 (length digits) && (all_ascii_digits digits && nat_lt (digits_value 10 digits) (2 ^ k))

-- the number below 2^k that decimal digits write; a plus may stand before them
abbrev pub number_in : ℕ → List ℕ → Option ℕ
number_in k word = cond (is_number k (without_leading_plus word)) (Some (digits_value 10 (without_leading_plus word))) None

-- so many times the same bytes
abbrev pub repeated : Option ℕ → Option (List ℕ) → Option (List ℕ)
repeated None bytes = None
repeated (Some count) None = None
repeated (Some count) (Some bytes) = Some (repeat count bytes)

-- a word has a `*`
abbrev pub has_star : List ℕ → Bool
has_star word = nat_lt (position_or_len (λ b. b == 42) word) (length word)

-- the bytes that a word stands for: none, those of its digits, or those before the first `*` as often as the number after it says
abbrev pub bytes_of : List ℕ → Option (List ℕ)
bytes_of word =
    cond (bytes_eq word (codes "-")) (Some [])
    (cond (has_star word) (repeated (number_in 32 (after_first (λ b. b == 42) word)) (bytes_in (before_first (λ b. b == 42) word))) (bytes_in word))
