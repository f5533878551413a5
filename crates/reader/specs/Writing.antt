-- How a card is written: its words, and their text.
use Rattle.std.specs.Prelude.{◌≡◌, ℕ, zero, suc, ◌+◌, ◌-◌, ◌*◌, ◌/◌, ◌%◌, ◌^◌, ◌<◌, ◌≤◌, cond, ◌||◌, T, List, [], ◌∷◌, ◌++◌, map, length, drop, Ok, Err, Result, ◌==◌, nat_le, slice_index_or}
use Rattle.std.specs.Int.Digits.{number_from_digits, AllBelowBase}
use Rattle.std.specs.List.{AllByRecursion}
use Rattle.refusal.specs.declared.layers.Layer.TheVariants as layer
use Rattle.refusal.specs.declared.Refusal.{Refusal}
use Rattle.refusal.specs.declared.Refusal.TheVariants.{SpaceTooShort}
use Rattle.reader.specs.Card.{Fields}
use Rattle.checksum.specs.Checksum.{customization, check_words_of}
use Rattle.lexicon.specs.Letters.{is_letter}

-- fields that a card can have
pub record Lawful (f : Fields) : Type 0 where
  pub identifier : f.identifier < 32768
  pub exponent : f.exponent < 16
  pub group : f.group < f.group_count
  pub group_threshold_least : 1 ≤ f.group_threshold
  pub group_threshold_most : f.group_threshold ≤ f.group_count
  pub group_count : f.group_count ≤ 16
  pub member : f.member < 16
  pub member_threshold_least : 1 ≤ f.member_threshold
  pub member_threshold_most : f.member_threshold ≤ 16
  pub alone : f.member_threshold ≡ 1 → f.member ≡ 0
  pub value_least : 16 ≤ length f.value
  pub value_most : length f.value ≤ 64
  pub value_even : length f.value % 2 ≡ 0
  pub value_bytes : AllBelowBase 256 f.value

-- `count` words that write a number, ten bits each, the high ones first
unfoldable pub words_for : ℕ → ℕ → List ℕ
words_for zero n = []
words_for (suc count) n = n / 2 ^ (10 * count) % 1024 ∷ words_for count n

-- the fields before the value, forty bits: 15, 1, and seven times 4
abbrev pub header_number : Fields → ℕ
header_number f =
    ((((((f.identifier * 2 + cond f.extendable 1 0) * 16 + f.exponent) * 16 + f.group) * 16 + (f.group_threshold - 1)) * 16 + (f.group_count - 1)) * 16 + f.member) * 16
    + (f.member_threshold - 1)

-- as few words as hold the bytes
abbrev pub value_words : ℕ → ℕ
value_words bytes = (8 * bytes + 9) / 10

-- the words before the check words
abbrev pub data_words : Fields → List ℕ
data_words f = words_for 4 (header_number f) ++ words_for (value_words (length f.value)) (number_from_digits 256 f.value)

abbrev pub words_of : Fields → List ℕ
words_of f = data_words f ++ check_words_of (customization f.extendable ++ data_words f)

-- words with one space between
abbrev pub spaced : List (List ℕ) → List ℕ
spaced [] = []
spaced (word ∷ []) = word
spaced (word ∷ next ∷ more) = word ++ (32 ∷ spaced (next ∷ more))

-- the text of words, by their indices
abbrev pub spell : List (List ℕ) → List ℕ → List ℕ
spell lexicon indices = spaced (map (λ i. slice_index_or lexicon i []) indices)

abbrev pub text_of : List (List ℕ) → Fields → List ℕ
text_of lexicon f = spell lexicon (words_of f)

-- nothing but letters a to z, digits and spaces
abbrev pub Plain : List ℕ → Type 0
Plain text = AllByRecursion (λ b. T (is_letter b || b == 32)) text

-- the answer to a call that writes a text into a space: the count written, or the bytes wanted
abbrev pub count_or_refusal : List ℕ → List ℕ → Result ℕ Refusal
count_or_refusal text space = cond (nat_le (length text) (length space)) (Ok (length text)) (Err (SpaceTooShort layer.Text (length text)))

-- the space after it: bytes past those written stay, and a refusal leaves all as it was
abbrev pub space_after : Result ℕ Refusal → List ℕ → List ℕ → List ℕ
space_after (Ok count) text space = text ++ drop count space
space_after (Err refusal) text space = space
