-- Reading a word file: the words so far, followed by those that are left.
use Rattle.std.proofs.Common.{◌≡◌, ℕ, suc, ◌+◌, ◌<◌, ◌≤◌, List, [], ◌∷◌, ◌++◌, length, drop, Some, None, Ok, Err, Option, Result, sym, refl, ap, ◌∙◌, append_assoc, append-nil}
use Rattle.std.proofs.lemmas.List.{drop-drop, at_drop_more, at_drop_all}
use Rattle.refusal.specs.declared.Refusal.{Refusal}
use Rattle.refusal.specs.declared.Refusal.TheVariants.{FaultyWordFile}
use Rattle.lexicon.specs.WordFile.{next_word, with_first, words_from}

abbrev pub with_front : List (List ℕ) → Result (List (List ℕ)) Refusal → Result (List (List ℕ)) Refusal
with_front front (Ok words) = Ok (front ++ words)
with_front front (Err refusal) = Err refusal

longer_front : (front : List (List ℕ)) (word : List ℕ) (r : Result (List (List ℕ)) Refusal) → with_front front (with_first word r) ≡ with_front (front ++ (word ∷ [])) r
longer_front front word (Ok words) = ap Ok (sym (append_assoc front (word ∷ []) words))
longer_front front word (Err refusal) = refl

-- ---- one line
module _ (front : List (List ℕ)) (previous : Option (List ℕ)) (offset : ℕ) (file : List ℕ) where
  abbrev left : List ℕ
  left = drop offset file

  abbrev step : ℕ → Option (List ℕ) → Result (List (List ℕ)) Refusal
  step m o =
      elim o [
        | None ↦ Err (FaultyWordFile offset)
        | Some word ↦ with_first word (words_from m (Some word) (offset + (length word + 1)) (drop (length word + 1) left))
      ]

  stepped : (n m : ℕ) → n ≡ suc m → words_from n previous offset left ≡ step m (next_word previous left)
  unfolding words_from
  stepped n m e = ap (λ k. words_from k previous offset left) e

  pub faulty : (n m : ℕ) → n ≡ suc m → next_word previous left ≡ None → with_front front (words_from n previous offset left) ≡ Err (FaultyWordFile offset)
  faulty n m e none = ap (with_front front) (stepped n m e ∙ ap (step m) none)

  pub one_more : (n m : ℕ) (word : List ℕ) → n ≡ suc m → next_word previous left ≡ Some word
      → with_front front (words_from n previous offset left)
      ≡ with_front (front ++ (word ∷ [])) (words_from m (Some word) (offset + (length word + 1)) (drop (offset + (length word + 1)) file))
  one_more n m word e some =
      ap (with_front front) (stepped n m e ∙ ap (step m) some) ∙ longer_front front word _
      ∙ ap (λ bytes. with_front (front ++ (word ∷ [])) (words_from m (Some word) (offset + (length word + 1)) bytes)) (drop-drop (length word + 1) offset file)

  -- ---- the end
  pub too_long : (n : ℕ) → n ≡ 0 → offset < length file → with_front front (words_from n previous offset left) ≡ Err (FaultyWordFile offset)
  unfolding words_from
  too_long n e h = ap (λ k. with_front front (words_from k previous offset left)) e ∙ at_drop_more (λ bytes. with_front front (words_from 0 previous offset bytes)) file offset 0 h

  pub whole : (n : ℕ) → n ≡ 0 → length file ≤ offset → with_front front (words_from n previous offset left) ≡ Ok front
  unfolding words_from
  whole n e h =
      ap (λ k. with_front front (words_from k previous offset left)) e ∙ at_drop_all (λ bytes. with_front front (words_from 0 previous offset bytes)) file offset h
      ∙ ap Ok (append-nil front)
