-- The lines that spell given words, and what is promised of them.
use Rattle.std.specs.Prelude.{◌≡◌, ℕ, ◌<◌, ◌≤◌, true, T, ◌⊎◌, List, [], ◌∷◌, ◌++◌, length, Ok, Err, slice_index_or}
use Rattle.std.specs.Int.Digits.{AllBelowBase}
use Rattle.refusal.specs.declared.Refusal.TheVariants.{WrongChecksum}
use Rattle.reader.specs.Bits.{bits_at}
use Rattle.reader.specs.Card.{Fields}
use Rattle.checksum.specs.Checksum.{differing}
use Rattle.lexicon.specs.Lexicon.{begins_with}
use Rattle.reader.specs.Line.{is_blank, is_hash, pieces_from}
use Rattle.reader.specs.Reading.{indices_in, reading}
use Rattle.reader.specs.Writing.{words_of}

-- a word ends at the end of the line, before a blank or before the remark
abbrev pub Ends : List ℕ → Type 0
Ends [] = Unit {0}
Ends (b ∷ bs) = T (is_blank b) ⊎ T (is_hash b)

-- Each word is written out or shortened to no fewer than four letters, with blanks around it as one likes, and a remark
-- may follow.
pub data Spelled (lexicon : List (List ℕ)) : List ℕ → List ℕ → Type 0 where
  end : Spelled lexicon [] []
  remark : (bytes : List ℕ) → Spelled lexicon [] (35 ∷ bytes)
  blank : (b : ℕ) (indices line : List ℕ) → T (is_blank b) → Spelled lexicon indices line → Spelled lexicon indices (b ∷ line)
  word : (i : ℕ) (letters indices line : List ℕ) → i < 1024 → 4 ≤ length letters → begins_with (slice_index_or lexicon i []) letters ≡ true
      → Ends line → Spelled lexicon indices line → Spelled lexicon (i ∷ indices) (letters ++ line)

-- one to three of the words are replaced by words of other indices, and the flag is kept
pub record Damaged (words others : List ℕ) : Type 0 where
  pub indices : AllBelowBase 1024 others
  pub same_length : length others ≡ length words
  pub some : 1 ≤ differing words others
  pub few : differing words others ≤ 3
  pub flag_kept : bits_at others 15 1 ≡ bits_at words 15 1

-- every line that spells the words of the card is read as the card
abbrev pub ReadAs : List (List ℕ) → Fields → Type 0
ReadAs lexicon f = (line : List ℕ) → Spelled lexicon (words_of f) line → reading lexicon line ≡ Ok f

-- every line that spells the words of the card, one to three of them replaced, is refused
abbrev pub Notices : List (List ℕ) → Fields → Type 0
Notices lexicon f = (others line : List ℕ) → Damaged (words_of f) others → Spelled lexicon others line → reading lexicon line ≡ Err WrongChecksum

-- the line spells the words by which the card is written
abbrev pub WritesBack : List (List ℕ) → List ℕ → Fields → Type 0
WritesBack lexicon line f = indices_in lexicon (pieces_from line 0) ≡ Ok (words_of f)
