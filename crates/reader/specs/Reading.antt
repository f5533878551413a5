-- What a line says: the fields of a card, or the refusal that is due. The checks stand in the order in which they are made.
use Rattle.std.specs.Prelude.{ℕ, zero, suc, ◌+◌, ◌-◌, ◌*◌, ◌/◌, ◌%◌, Bool, cond, not, ◌&&◌, ◌||◌, List, [], ◌∷◌, ◌++◌, length, Some, None, Ok, Err, Option, Result, ◌==◌, nat_le, nat_lt}
use Rattle.numbers.specs.declared.word_index.WordIndex.{WordIndex}
use Rattle.refusal.specs.declared.Refusal.{Refusal}
use Rattle.refusal.specs.declared.Refusal.TheVariants.{ForbiddenByte, NoSuchWord, WordCount, WrongChecksum, PaddingNotZero, GroupNumbers, MemberAtThresholdOne}
use Rattle.reader.specs.declared.card.Card.{Card}
use Rattle.reader.specs.Line.{Piece, word, remark, first_forbidden, pieces_from}
use Rattle.lexicon.specs.Lexicon.{index_of}
use Rattle.reader.specs.Bits.{bits_at}
use Rattle.checksum.specs.Checksum.{is_right}
use Rattle.reader.specs.Card.{Fields, fields_of}

-- a check: refused unless it is passed
abbrev pub require : {A : Type 0} → Bool → Refusal → Result A Refusal → Result A Refusal
require passed refusal rest = cond passed rest (Err refusal)

-- ---- words
abbrev pub or_refusal : Option ℕ → Refusal → Result ℕ Refusal
or_refusal None refusal = Err refusal
or_refusal (Some i) refusal = Ok i

-- a word counts for an index if it has at least four bytes and begins exactly one word of the lexicon
abbrev pub index_at : List (List ℕ) → ℕ → List ℕ → Result ℕ Refusal
index_at lexicon offset bytes = require (nat_le 4 (length bytes)) (NoSuchWord offset) (or_refusal (index_of lexicon bytes) (NoSuchWord offset))

abbrev pub prefixed : List ℕ → Result (List ℕ) Refusal → Result (List ℕ) Refusal
prefixed front (Ok rest) = Ok (front ++ rest)
prefixed front (Err refusal) = Err refusal

abbrev pub followed : Result ℕ Refusal → Result (List ℕ) Refusal → Result (List ℕ) Refusal
followed (Ok i) rest = prefixed (i ∷ []) rest
followed (Err refusal) rest = Err refusal

-- the indices of the words, or the first word that counts for none
abbrev pub indices_in : List (List ℕ) → List Piece → Result (List ℕ) Refusal
indices_in lexicon [] = Ok []
indices_in lexicon (word offset bytes ∷ more) = followed (index_at lexicon offset bytes) (indices_in lexicon more)
indices_in lexicon (remark offset bytes ∷ more) = indices_in lexicon more

-- ---- the card in bits
-- four words of fields and three check words: the others hold the value and the padding before it
abbrev pub value_bits : ℕ → ℕ
value_bits words = 10 * (words - 7)

abbrev pub padding_bits : ℕ → ℕ
padding_bits words = value_bits words % 16

abbrev pub value_length : ℕ → ℕ
value_length words = value_bits words / 16 * 2

abbrev pub count_fits : ℕ → Bool
count_fits words = nat_le 20 words && (nat_le words 59 && nat_le (padding_bits words) 8)

-- n bytes after the first `from` bits
abbrev pub bytes_at : List ℕ → ℕ → ℕ → List ℕ
bytes_at words from zero = []
bytes_at words from (suc n) = bits_at words from 8 ∷ bytes_at words (from + 8) n

abbrev pub fields_in : List ℕ → Fields
fields_in words =
    record {
      identifier = bits_at words 0 15;
      extendable = (bits_at words 15 1 == 1);
      exponent = bits_at words 16 4;
      group = bits_at words 20 4;
      group_threshold = bits_at words 24 4 + 1;
      group_count = bits_at words 28 4 + 1;
      member = bits_at words 32 4;
      member_threshold = bits_at words 36 4 + 1;
      value = bytes_at words (40 + padding_bits (length words)) (value_length (length words));
    }

abbrev pub groups_fit : Fields → Bool
groups_fit f = nat_le f.group_threshold f.group_count && nat_lt f.group f.group_count

abbrev pub member_fits : Fields → Bool
member_fits f = not (f.member_threshold == 1) || f.member == 0

abbrev pub checked_fields : Fields → Result Fields Refusal
checked_fields fields = require (groups_fit fields) GroupNumbers (require (member_fits fields) MemberAtThresholdOne (Ok fields))

abbrev pub checked_words : List ℕ → Result Fields Refusal
checked_words words =
    require (is_right (fields_in words).extendable words) WrongChecksum
    (require (bits_at words 40 (padding_bits (length words)) == 0) PaddingNotZero
    (checked_fields (fields_in words)))

abbrev pub card_in : List ℕ → Result Fields Refusal
card_in words = require (count_fits (length words)) (WordCount (length words)) (checked_words words)

-- ---- the line
abbrev pub then_card : Result (List ℕ) Refusal → Result Fields Refusal
then_card (Ok words) = card_in words
then_card (Err refusal) = Err refusal

abbrev pub unless_forbidden : Option ℕ → Result Fields Refusal → Result Fields Refusal
unless_forbidden (Some offset) rest = Err (ForbiddenByte offset)
unless_forbidden None rest = rest

abbrev pub reading : List (List ℕ) → List ℕ → Result Fields Refusal
reading lexicon line = unless_forbidden (first_forbidden 0 line) (then_card (indices_in lexicon (pieces_from line 0)))

-- ---- the answers of the code, as numbers and fields
abbrev pub indexed : Result WordIndex Refusal → Result ℕ Refusal
indexed (Ok index) = Ok index.value
indexed (Err refusal) = Err refusal

abbrev pub meant : Result Card Refusal → Result Fields Refusal
meant (Ok card) = Ok (fields_of card)
meant (Err refusal) = Err refusal
