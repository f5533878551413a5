-- The words of a word file: each has four to eight letters, and their first four letters rise in byte order.
use Rattle.std.specs.Prelude.{◌≡◌, ℕ, zero, suc, ◌+◌, ◌<◌, ◌≤◌, true, ◌&&◌, T, List, [], ◌∷◌, length, take, drop, Some, None, Ok, Err, Option, Result, ◌==◌, ◌≢◌, slice_index, slice_index_or, refl}
use Rattle.std.proofs.Common.{sym, ap, subst, ◌∙◌, inl, inr, not-suc-le-zero, arith}
use Rattle.std.specs.List.{AllByRecursion}
use Rattle.std.proofs.ByRecursion.{All-weaker, all_from_every}
use Rattle.std.proofs.lemmas.List.Sums.{prefix_len_passes}
use Rattle.std.proofs.lemmas.Bool.Decides.{nat_tests}
use Rattle.std.proofs.lemmas.Bool.{and_parts, cases_order, both_ways}
use Rattle.refusal.specs.declared.Refusal.{Refusal}
use Rattle.refusal.specs.declared.Refusal.TheVariants.{FaultyWordFile}
use Rattle.lexicon.specs.ByteOrder.{comes_before}
use Rattle.lexicon.specs.Letters.{is_letter}
use Rattle.lexicon.specs.Lexicon.{Lawful}
use Rattle.lexicon.specs.WordOrder.{is_lowercase, letter_count, is_word, follows, in_order}
use Rattle.lexicon.specs.WordFile.{letters_of, next_word, with_first, words_from, file_words}
use Rattle.lexicon.specs.WordFileLines.{taken}
use Rattle.lexicon.specs.ByteOrderLemmas.{irreflexive, transitive, first_before, before_first}

-- ---- one line
record IsWord (word : List ℕ) : Type 0 where
  least : 4 ≤ length word
  most : length word ≤ 8
  letters : AllByRecursion (λ b. is_lowercase b ≡ true) word

word-parts : (word : List ℕ) → is_word word ≡ true → IsWord word
word-parts word t =
    let all : letter_count word ≡ length word = grind (arith, nat_tests) in
    record {
      least = grind (arith, nat_tests);
      most = grind (arith, nat_tests);
      letters = all_from_every (λ b. is_lowercase b ≡ true) word (λ k d _ h. prefix_len_passes is_lowercase word k d (omega arith));
    }

-- ---- what is read
next_parts : (previous : Option (List ℕ)) (bytes word : List ℕ) → next_word previous bytes ≡ Some word → (is_word word ≡ true) × (follows previous word ≡ true)
next_parts previous bytes word e =
    let t = taken previous bytes word e in
    let line = and_parts (is_word (letters_of bytes)) (slice_index bytes (letter_count bytes) == 10) t.1 in
    (ap is_word t.0 ∙ line.0, ap (follows previous) t.0 ∙ t.2)

abbrev Good : ℕ → Option (List ℕ) → Result (List (List ℕ)) Refusal → Type 0
Good n previous (Ok ws) = (length ws ≡ n) × (in_order previous ws ≡ true)
Good n previous (Err refusal) = Unit {0}

first_good : (n : ℕ) (previous : Option (List ℕ)) (word : List ℕ) (r : Result (List (List ℕ)) Refusal)
    → (is_word word ≡ true) × (follows previous word ≡ true) → Good n (Some word) r → Good (suc n) previous (with_first word r)
first_good n previous word (Ok ws) is g = grind (arith, nat_tests)
first_good n previous word (Err refusal) is g = tt

good : (n : ℕ) (previous : Option (List ℕ)) (offset : ℕ) (bytes : List ℕ) → Good n previous (words_from n previous offset bytes)
unfolding words_from
good zero previous offset [] = (refl, refl)
good zero previous offset (b ∷ bytes) = tt
good (suc n) previous offset bytes =
    by (next_word previous bytes) refl (λ word. good n (Some word) (offset + (length word + 1)) (drop (length word + 1) bytes))
  where
    by : (o : Option (List ℕ)) → next_word previous bytes ≡ o
        → ((word : List ℕ) → Good n (Some word) (words_from n (Some word) (offset + (length word + 1)) (drop (length word + 1) bytes)))
        → Good (suc n) previous (elim o [ None ↦ Err (FaultyWordFile offset) | Some word ↦ with_first word (words_from n (Some word) (offset + (length word + 1)) (drop (length word + 1) bytes)) ])
    by None e rest = tt
    by (Some word) e rest = first_good n previous word _ (next_parts previous bytes word e) (rest word)

pub accepted : (file : List ℕ) (ws : List (List ℕ)) → file_words file ≡ Ok ws → (length ws ≡ 1024) × (in_order None ws ≡ true)
accepted file ws e = subst (Good 1024 None) e (good 1024 None 0 file)

-- ---- words in order
in_parts : (previous : Option (List ℕ)) (w : List ℕ) (ws : List (List ℕ)) → in_order previous (w ∷ ws) ≡ true → (is_word w ≡ true) × (in_order (Some w) ws ≡ true)
in_parts previous w ws t =
    let p = and_parts (is_word w) (follows previous w && in_order (Some w) ws) t in
    (p.0, (and_parts (follows previous w) (in_order (Some w) ws) p.1).1)

word_at : (previous : Option (List ℕ)) (ws : List (List ℕ)) (i : ℕ) → i < length ws → in_order previous ws ≡ true → IsWord (slice_index_or ws i [])
word_at previous [] i h t = absurd (not-suc-le-zero h)
word_at previous (w ∷ ws) zero h t = word-parts w (in_parts previous w ws t).0
word_at previous (w ∷ ws) (suc i) h t = word_at (Some w) ws i (omega arith) (in_parts previous w ws t).1

-- the first four letters of a word come before those of every later one
later_rises : (v : List ℕ) (ws : List (List ℕ)) (j : ℕ) → j < length ws → in_order (Some v) ws ≡ true → comes_before (take 4 v) (take 4 (slice_index_or ws j [])) ≡ true
later_rises v [] j h t = grind arith
later_rises v (w ∷ ws) zero h t = grind (arith, nat_tests, first_before 4 v w)
later_rises v (w ∷ ws) (suc j) h t =
    grind (arith, nat_tests, first_before 4 v w, later_rises w ws j, transitive (take 4 v) (take 4 w) (take 4 (slice_index_or ws j [])))

rising : (previous : Option (List ℕ)) (ws : List (List ℕ)) (i j : ℕ) → i < j → j < length ws → in_order previous ws ≡ true
    → comes_before (take 4 (slice_index_or ws i [])) (take 4 (slice_index_or ws j [])) ≡ true
rising previous [] i j h l t = grind arith
rising previous (w ∷ ws) i zero h l t = grind arith
rising previous (w ∷ ws) zero (suc j) h l t = grind (arith, nat_tests, later_rises w ws j)
rising previous (w ∷ ws) (suc i) (suc j) h l t = grind (arith, nat_tests, rising (Some w) ws i j)

letter : (b : ℕ) → is_lowercase b ≡ true → T (is_letter b)
letter b t = grind (arith, nat_tests)

module _ (ws : List (List ℕ)) (size : length ws ≡ 1024) (sorted : in_order None ws ≡ true) where
  pub earlier_before : (i j : ℕ) → i < j → j < 1024 → comes_before (slice_index_or ws i []) (slice_index_or ws j []) ≡ true
  earlier_before i j h l = before_first 4 (slice_index_or ws i []) (slice_index_or ws j []) (rising None ws i j h (omega arith) sorted)

  unlike : (i j : ℕ) → i < j → j < 1024 → take 4 (slice_index_or ws i []) ≢ take 4 (slice_index_or ws j [])
  unlike i j h l same =
      both_ways _ (irreflexive (take 4 (slice_index_or ws j [])))
      (subst (λ w. comes_before w (take 4 (slice_index_or ws j [])) ≡ true) same (rising None ws i j h (omega arith) sorted))

  pub lawful : Lawful ws
  lawful =
      let each : (i : ℕ) → i < 1024 → IsWord (slice_index_or ws i []) = λ i h. word_at None ws i (omega arith) sorted in
      record {
        count = size;
        least = λ i h. (each i h).least;
        most = λ i h. (each i h).most;
        letters = λ i h. All-weaker (λ b. is_lowercase b ≡ true) (λ b. T (is_letter b)) letter (slice_index_or ws i []) (each i h).letters;
        apart = λ i j h k same.
            elim (cases_order i j) [
              | inl e ↦ e
              | inr o ↦ elim o [ inl l ↦ absurd (unlike i j l k same) | inr l ↦ absurd (unlike j i l h (sym same)) ]
            ];
      }
