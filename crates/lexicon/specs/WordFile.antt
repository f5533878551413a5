-- The word file: 1,024 lines, each of a word and a line feed.
use Rattle.std.specs.Prelude.{ℕ, zero, suc, ◌+◌, Bool, cond, ◌&&◌, List, [], ◌∷◌, length, take, drop, Some, None, Ok, Err, Option, Result, ◌==◌, slice_index}
use Rattle.refusal.specs.declared.Refusal.{Refusal}
use Rattle.refusal.specs.declared.Refusal.TheVariants.{FaultyWordFile}
use Rattle.lexicon.specs.declared.word_file.WordFile.{WordFile}
use Rattle.lexicon.specs.WordOrder.{letter_count, is_word, follows}

-- the letters that the bytes begin with
abbrev pub letters_of : List ℕ → List ℕ
letters_of bytes = take (letter_count bytes) bytes

abbrev pub begins_with_line : List ℕ → Bool
begins_with_line bytes = is_word (letters_of bytes) && slice_index bytes (letter_count bytes) == 10

-- the word of the line that the bytes begin with, if that line may stand after the word before
abbrev pub next_word : Option (List ℕ) → List ℕ → Option (List ℕ)
next_word previous bytes = cond (begins_with_line bytes && follows previous (letters_of bytes)) (Some (letters_of bytes)) None

abbrev pub with_first : List ℕ → Result (List (List ℕ)) Refusal → Result (List (List ℕ)) Refusal
with_first word (Ok words) = Ok (word ∷ words)
with_first word (Err refusal) = Err refusal

-- the words of n lines after which nothing stands, or the first faulty line; the bytes are those from an offset on
unfoldable pub words_from : ℕ → Option (List ℕ) → ℕ → List ℕ → Result (List (List ℕ)) Refusal
words_from zero previous offset [] = Ok []
words_from zero previous offset (b ∷ bytes) = Err (FaultyWordFile offset)
words_from (suc n) previous offset bytes =
    elim (next_word previous bytes) [
      | None ↦ Err (FaultyWordFile offset)
      | Some word ↦ with_first word (words_from n (Some word) (offset + (length word + 1)) (drop (length word + 1) bytes))
    ]

-- where lines are missing, the offset is the file's length
abbrev pub file_words : List ℕ → Result (List (List ℕ)) Refusal
file_words file = words_from 1024 None 0 file

-- the answer of the code, as words
abbrev pub words_of : Result WordFile Refusal → Result (List (List ℕ)) Refusal
words_of (Ok file) = Ok file.words
words_of (Err refusal) = Err refusal
