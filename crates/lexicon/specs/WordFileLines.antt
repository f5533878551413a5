-- One line of a word file: when it is right, and which word it has.
use Rattle.std.specs.Prelude.{◌≡◌, ℕ, ◌<◌, ◌≤◌, true, ◌&&◌, List, length, Some, Option, ◌==◌, slice_index, slice_index_or}
use Rattle.std.proofs.Common.{sym, ap, ◌∙◌, inl, inr, arith}
use Rattle.std.proofs.lemmas.List.{get_or-take, get_or_past}
use Rattle.std.proofs.lemmas.List.Folds.{length-prefix_len}
use Rattle.std.proofs.lemmas.List.Sums.{prefix_len_is, prefix_len_passes}
use Rattle.std.proofs.lemmas.Option.{cond_some}
use Rattle.std.proofs.lemmas.Bool.Decides.{nat_tests}
use Rattle.std.proofs.lemmas.Bool.{eqb-true, and_parts, cases_lt}
use Rattle.lexicon.specs.WordOrder.{is_lowercase, letter_count, is_word, follows}
use Rattle.lexicon.specs.WordFile.{letters_of, begins_with_line, next_word}

module _ (bytes : List ℕ) where
  abbrev count : ℕ
  count = letter_count bytes

  size : length (letters_of bytes) ≡ count
  size = length-prefix_len is_lowercase bytes

  letters_again : letter_count (letters_of bytes) ≡ count
  letters_again =
      let all = size in
      prefix_len_is is_lowercase (letters_of bytes) count 0 (omega arith)
      (λ k h. ap is_lowercase (get_or-take count bytes k 0 h) ∙ prefix_len_passes is_lowercase bytes k 0 h) (λ h. absurd (omega arith))

  pub is_line : 4 ≤ count → count ≤ 8 → slice_index bytes count ≡ 10 → begins_with_line bytes ≡ true
  is_line h k e = grind (arith, nat_tests, size, letters_again)

-- ---- after the word before
module _ (previous : Option (List ℕ)) (bytes : List ℕ) where
  pub taken : (word : List ℕ) → next_word previous bytes ≡ Some word → (word ≡ letters_of bytes) × (begins_with_line bytes ≡ true) × (follows previous (letters_of bytes) ≡ true)
  taken word e =
      let line = cond_some (begins_with_line bytes && follows previous (letters_of bytes)) (letters_of bytes) word e in
      let both = and_parts (begins_with_line bytes) (follows previous (letters_of bytes)) line.0 in
      (sym line.1, both.0, both.1)

  -- its line feed is within the bytes
  pub fits : (word : List ℕ) → next_word previous bytes ≡ Some word → length word < length bytes
  fits word e =
      let t = taken word e in
      let count : length word ≡ letter_count bytes = ap length t.0 ∙ size bytes in
      let feed : slice_index_or bytes (letter_count bytes) 0 ≡ 10 = eqb-true _ 10 (and_parts (is_word (letters_of bytes)) (slice_index bytes (letter_count bytes) == 10) t.1).1 in
      elim (cases_lt (letter_count bytes) (length bytes)) [
        | inl h ↦ omega arith
        | inr h ↦ absurd (let past : slice_index_or bytes (letter_count bytes) 0 ≡ 0 = get_or_past bytes (letter_count bytes) 0 h in omega arith)
      ]
