-- A lexicon's words, and the index that bytes stand for.
use Rattle.std.specs.Prelude.{◌≡◌, ℕ, ◌+◌, ◌<◌, ◌≤◌, Bool, true, false, cond, ◌&&◌, T, List, [], ◌∷◌, length, take, Some, None, Option, ◌==◌, slice_index_or}
use Rattle.std.specs.List.{AllByRecursion}
use Rattle.std.specs.Option.{option_map}
use Rattle.numbers.specs.declared.word_index.WordIndex.{WordIndex}
use Rattle.lexicon.specs.Letters.{is_letter}

-- 1,024 words of four to eight bytes from a-z and 0-9, no two alike in their first four bytes
pub record Lawful (words : List (List ℕ)) : Type 0 where
  pub count : length words ≡ 1024
  pub least : (i : ℕ) → i < 1024 → 4 ≤ length (slice_index_or words i [])
  pub most : (i : ℕ) → i < 1024 → length (slice_index_or words i []) ≤ 8
  pub letters : (i : ℕ) → i < 1024 → AllByRecursion (λ b. T (is_letter b)) (slice_index_or words i [])
  pub apart : (i j : ℕ) → i < 1024 → j < 1024 → take 4 (slice_index_or words i []) ≡ take 4 (slice_index_or words j []) → i ≡ j

abbrev pub begins_with : List ℕ → List ℕ → Bool
begins_with [] [] = true
begins_with [] (b ∷ bs) = false
begins_with (w ∷ ws) [] = true
begins_with (w ∷ ws) (b ∷ bs) = w == b && begins_with ws bs

-- the indices of the words that begin with the bytes, the words being those from index i on
abbrev pub indices : List (List ℕ) → ℕ → List ℕ → List ℕ
indices [] i bytes = []
indices (w ∷ ws) i bytes = cond (begins_with w bytes) (i ∷ indices ws (i + 1) bytes) (indices ws (i + 1) bytes)

abbrev pub only : List ℕ → Option ℕ
only [] = None
only (i ∷ []) = Some i
only (i ∷ j ∷ more) = None

-- the only index whose word begins with the bytes
abbrev pub index_of : List (List ℕ) → List ℕ → Option ℕ
index_of words bytes = only (indices words 0 bytes)

-- the number of an index
abbrev pub found : Option WordIndex → Option ℕ
found = option_map (λ i. i.value)
