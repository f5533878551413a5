-- Words that may stand one after the other in a word file.
use Rattle.std.specs.Prelude.{ℕ, Bool, true, not, ◌&&◌, List, [], ◌∷◌, length, take, Some, None, Option, ◌==◌, nat_le}
use Rattle.std.specs.List.{prefix_len}
use Rattle.lexicon.specs.ByteOrder.{comes_before}
use Rattle.lexicon.specs.Lexicon.{begins_with}

-- a to z
abbrev pub is_lowercase : ℕ → Bool
is_lowercase b = nat_le 97 b && nat_le b 122

-- how many letters the bytes begin with
abbrev pub letter_count : List ℕ → ℕ
letter_count bytes = prefix_len is_lowercase bytes

-- four to eight bytes, all of them letters
abbrev pub is_word : List ℕ → Bool
is_word word = nat_le 4 (length word) && (nat_le (length word) 8 && letter_count word == length word)

-- after the first, a word is greater in byte order than the one before and differs from it within the first four letters
abbrev pub follows : Option (List ℕ) → List ℕ → Bool
follows None word = true
follows (Some previous) word = comes_before previous word && not (begins_with word (take 4 previous))

-- words of which each is judged against the one before
abbrev pub in_order : Option (List ℕ) → List (List ℕ) → Bool
in_order previous [] = true
in_order previous (word ∷ more) = is_word word && (follows previous word && in_order (Some word) more)
