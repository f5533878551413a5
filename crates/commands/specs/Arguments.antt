-- The arguments of a command: texts with one space between, numbers in decimal digits and bytes in hexadecimal ones.
use Rattle.std.specs.Prelude.{ℕ, ◌+◌, ◌*◌, ◌%◌, Bool, true, cond, ◌&&◌, List, [], ◌∷◌, length, Some, None, Option, ◌==◌, nat_le, nat_lt, slice_index_or}
use Rattle.std.specs.List.{slice_split}
use Rattle.std.specs.Str.Parse.{digits_value as numeral_value}
use Rattle.std.specs.Char.{digit_value}
use Rattle.reader.specs.Card.{Fields}

-- the texts between spaces: one more than there are spaces
abbrev pub separated : List ℕ → List (List ℕ)
separated line = slice_split (λ b. b == 32) line

-- the same of what follows a space, if there is one
abbrev pub texts_in : Option (List ℕ) → List (List ℕ)
texts_in None = []
texts_in (Some rest) = separated rest

-- an argument that is missing has no bytes
abbrev pub argument_at : List (List ℕ) → ℕ → List ℕ
argument_at texts k = slice_index_or texts k []

-- the letters from a or A on are the digits from ten on
abbrev pub digit_from : ℕ → ℕ → Option ℕ
digit_from radix b = cond (nat_lt (digit_value b) radix) (Some (digit_value b)) None

-- nothing but digits
abbrev pub only_digits : ℕ → List ℕ → Bool
only_digits radix [] = true
only_digits radix (b ∷ bs) = nat_lt (digit_value b) radix && only_digits radix bs

-- the number that decimal digits write
abbrev pub number_in : List ℕ → ℕ
number_in text = numeral_value 10 text

-- a number from `least` to `most`, in one digit or more: zeros may stand before it
abbrev pub is_number : ℕ → ℕ → List ℕ → Bool
is_number least most text = nat_lt 0 (length text) && (only_digits 10 text && (nat_le least (number_in text) && nat_le (number_in text) most))

abbrev pub number_from : ℕ → ℕ → List ℕ → Option ℕ
number_from least most text = cond (is_number least most text) (Some (number_in text)) None

-- two hexadecimal digits for each byte
abbrev pub bytes_in : List ℕ → List ℕ
bytes_in [] = []
bytes_in (high ∷ []) = []
bytes_in (high ∷ low ∷ more) = (digit_value high * 16 + digit_value low) ∷ bytes_in more

-- the digits of 16, 18, .. 64 bytes
abbrev pub is_value : List ℕ → Bool
is_value text = only_digits 16 text && (length text % 4 == 0 && (nat_le 32 (length text) && nat_le (length text) 128))

abbrev pub value_from : List ℕ → Option (List ℕ)
value_from text = cond (is_value text) (Some (bytes_in text)) None

-- ---- a card
-- nine arguments, in the order in which a card holds its fields
abbrev pub card_tests : List (List ℕ) → List Bool
card_tests texts =
    (length texts == 9)
    ∷ is_number 0 32767 (argument_at texts 0)
    ∷ is_number 0 1 (argument_at texts 1)
    ∷ is_number 0 15 (argument_at texts 2)
    ∷ is_number 0 15 (argument_at texts 3)
    ∷ is_number 1 16 (argument_at texts 4)
    ∷ is_number 1 16 (argument_at texts 5)
    ∷ is_number 0 15 (argument_at texts 6)
    ∷ is_number 1 16 (argument_at texts 7)
    ∷ is_value (argument_at texts 8)
    ∷ []

abbrev pub all_pass : List Bool → Bool
all_pass [] = true
all_pass (t ∷ ts) = t && all_pass ts

abbrev pub card_fields : List (List ℕ) → Fields
card_fields texts =
    record {
      identifier = number_in (argument_at texts 0);
      extendable = (number_in (argument_at texts 1) == 1);
      exponent = number_in (argument_at texts 2);
      group = number_in (argument_at texts 3);
      group_threshold = number_in (argument_at texts 4);
      group_count = number_in (argument_at texts 5);
      member = number_in (argument_at texts 6);
      member_threshold = number_in (argument_at texts 7);
      value = bytes_in (argument_at texts 8);
    }

abbrev pub fields_from : List (List ℕ) → Option Fields
fields_from texts = cond (all_pass (card_tests texts)) (Some (card_fields texts)) None
