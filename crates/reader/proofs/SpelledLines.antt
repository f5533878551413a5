-- A line that spells words is read as those words.
use Rattle.std.proofs.Common.{◌≡◌, ℕ, ◌+◌, ◌<◌, ◌≤◌, Bool, true, false, ◌&&◌, T, eqb, leb, List, [], ◌∷◌, ◌++◌, map, length, get_or, take, Some, None, Ok, Err, sym, refl, ap, ◌∙◌, subst, ap₂, inl, inr, append_assoc, append-nil, le_refl, add-zero, arith}
use Rattle.std.specs.List.{AllByRecursion}
use Rattle.std.specs.Int.Digits.{AllBelowBase}
use Rattle.std.proofs.ByRecursion.{All-take}
use Rattle.std.proofs.lemmas.List.{take-take, take_all}
use Rattle.std.proofs.lemmas.Bool.{cond-true, cond-false, or_cases, or_from, and_parts, leb-true, ne_eqb, eqb-true, le-leb}
use Rattle.refusal.specs.declared.Refusal.TheVariants.{NoSuchWord}
use Rattle.reader.specs.declared.line.Class.{Class}
use Rattle.reader.specs.declared.line.Class.TheVariants.{Blank, Hash, Letter, Forbidden}
use Rattle.lexicon.specs.Lexicon.{Lawful, begins_with, index_of}
use Rattle.reader.specs.Line.{is_blank, is_hash, class_of, by_class, first_forbidden, Piece, Within, between, in_word, pieces, pieces_from}
use Rattle.lexicon.specs.Letters.{is_letter}
use Rattle.reader.specs.Line as line
use Rattle.reader.specs.Reading.{or_refusal, index_at, indices_in, followed, card_in, reading, then_card, unless_forbidden}
use Rattle.reader.specs.Spelling.{Ends, Spelled, end, remark, blank, word}
use Rattle.reader.specs.Writing.{spaced}
use Rattle.lexicon.specs.Lookup as L

-- ---- classes
truth : (b : Bool) → T b → b ≡ true
truth true t = refl
truth false t = absurd t

blank_class : (b : ℕ) → T (is_blank b) → class_of b ≡ Blank
blank_class b t = cond-true (is_blank b) Blank _ (truth (is_blank b) t)

-- letters come after the blanks and the #
letter_high : (b : ℕ) → is_letter b ≡ true → 48 ≤ b
letter_high b l =
    elim (or_cases (leb 97 b && leb b 122) (leb 48 b && leb b 57) l) [
      | inl h ↦ omega (arith, leb-true 97 b (and_parts (leb 97 b) (leb b 122) h).0)
      | inr h ↦ leb-true 48 b (and_parts (leb 48 b) (leb b 57) h).0
    ]

letter_class : (b : ℕ) → T (is_letter b) → class_of b ≡ Letter
letter_class b t =
    let l = truth (is_letter b) t in
    let high = letter_high b l in
    let no-blank : is_blank b ≡ false = or_from (eqb b 32) (eqb b 9) (ne_eqb b 32 (λ e. omega arith)) (ne_eqb b 9 (λ e. omega arith)) in
    cond-false (is_blank b) Blank _ no-blank ∙ cond-false (is_hash b) Hash _ (ne_eqb b 35 (λ e. omega arith)) ∙ cond-true (is_letter b) Letter Forbidden l

hash_class : (b : ℕ) → T (is_hash b) → class_of b ≡ Hash
hash_class b t = ap class_of (eqb-true b 35 (truth (is_hash b) t))

-- ---- a word and what follows it
Letters : List ℕ → Type 0
Letters w = AllByRecursion (λ b. T (is_letter b)) w

allowed : (i : ℕ) (w rest : List ℕ) → Letters w → first_forbidden i (w ++ rest) ≡ first_forbidden (i + length w) rest
unfolding Letters
allowed i [] rest h = ap (λ n. first_forbidden n rest) (sym (add-zero i))
allowed i (b ∷ w) rest h =
    ap (λ c. by_class c (first_forbidden (i + 1) (w ++ rest)) None (first_forbidden (i + 1) (w ++ rest)) (Some i)) (letter_class b h.0)
    ∙ allowed (i + 1) w rest h.1 ∙ ap (λ n. first_forbidden n rest) (omega arith)

ended : (o i : ℕ) (acc rest : List ℕ) → Ends rest → pieces (in_word o acc) i rest ≡ line.word o acc ∷ pieces between i rest
ended o i acc [] e = refl
ended o i acc (b ∷ bs) (inl t) =
    let P : Class → List Piece = λ c. by_class c (line.word o acc ∷ pieces between (i + 1) bs) (line.word o acc ∷ line.remark i (b ∷ bs) ∷ []) (pieces (in_word o (acc ++ (b ∷ []))) (i + 1) bs) (pieces (in_word o (acc ++ (b ∷ []))) (i + 1) bs) in
    let Q : Class → List Piece = λ c. by_class c (pieces between (i + 1) bs) (line.remark i (b ∷ bs) ∷ []) (pieces (in_word i (b ∷ [])) (i + 1) bs) (pieces (in_word i (b ∷ [])) (i + 1) bs) in
    ap P (blank_class b t) ∙ ap (λ ps. line.word o acc ∷ ps) (sym (ap Q (blank_class b t)))
ended o i acc (b ∷ bs) (inr t) =
    let P : Class → List Piece = λ c. by_class c (line.word o acc ∷ pieces between (i + 1) bs) (line.word o acc ∷ line.remark i (b ∷ bs) ∷ []) (pieces (in_word o (acc ++ (b ∷ []))) (i + 1) bs) (pieces (in_word o (acc ++ (b ∷ []))) (i + 1) bs) in
    let Q : Class → List Piece = λ c. by_class c (pieces between (i + 1) bs) (line.remark i (b ∷ bs) ∷ []) (pieces (in_word i (b ∷ [])) (i + 1) bs) (pieces (in_word i (b ∷ [])) (i + 1) bs) in
    ap P (hash_class b t) ∙ ap (λ ps. line.word o acc ∷ ps) (sym (ap Q (hash_class b t)))

inside : (o i : ℕ) (acc w rest : List ℕ) → Letters w → Ends rest → pieces (in_word o acc) i (w ++ rest) ≡ line.word o (acc ++ w) ∷ pieces between (i + length w) rest
unfolding Letters
inside o i acc [] rest h e =
    ended o i acc rest e ∙ ap₂ (λ a n. line.word o a ∷ pieces between n rest) (sym (append-nil acc)) (sym (add-zero i))
inside o i acc (b ∷ w) rest h e =
    let P : Class → List Piece = λ c. by_class c (line.word o acc ∷ pieces between (i + 1) (w ++ rest)) (line.word o acc ∷ line.remark i (b ∷ (w ++ rest)) ∷ []) (pieces (in_word o (acc ++ (b ∷ []))) (i + 1) (w ++ rest)) (pieces (in_word o (acc ++ (b ∷ []))) (i + 1) (w ++ rest)) in
    ap P (letter_class b h.0)
    ∙ inside o (i + 1) (acc ++ (b ∷ [])) w rest h.1 e
    ∙ ap₂ (λ a n. line.word o a ∷ pieces between n rest) (append_assoc acc (b ∷ []) w) (omega arith)

whole : (i : ℕ) (w rest : List ℕ) → 4 ≤ length w → Letters w → Ends rest → pieces between i (w ++ rest) ≡ line.word i w ∷ pieces between (i + length w) rest
unfolding Letters
whole i [] rest n h e = absurd (omega arith)
whole i (b ∷ w) rest n h e =
    let Q : Class → List Piece = λ c. by_class c (pieces between (i + 1) (w ++ rest)) (line.remark i (b ∷ (w ++ rest)) ∷ []) (pieces (in_word i (b ∷ [])) (i + 1) (w ++ rest)) (pieces (in_word i (b ∷ [])) (i + 1) (w ++ rest)) in
    ap Q (letter_class b h.0) ∙ inside i (i + 1) (b ∷ []) w rest h.1 e ∙ ap (λ n. line.word i (b ∷ w) ∷ pieces between n rest) (omega arith)

-- ---- looking the word up
module _ (lexicon : List (List ℕ)) (ok : Lawful lexicon) where
  counts_for : (i : ℕ) (w : List ℕ) → i < 1024 → 4 ≤ length w → begins_with (get_or lexicon i []) w ≡ true → index_of lexicon w ≡ Some i
  counts_for i w h n b =
      let size = ok.count in
      let four : (k : ℕ) → begins_with (get_or lexicon k []) w ≡ true → take 4 (get_or lexicon k []) ≡ take 4 w =
      λ k b. sym (take-take 4 (length w) (get_or lexicon k []) n) ∙ ap (take 4) (L.begins_take (get_or lexicon k []) w b) in
      L.alone w lexicon i (omega arith) b
      (λ k lt bk. ok.apart k i (omega arith) h (four k bk ∙ sym (four i b)))

  letters-of : (i : ℕ) (w : List ℕ) → i < 1024 → begins_with (get_or lexicon i []) w ≡ true → Letters w
  unfolding Letters
  letters-of i w h b =
      subst (AllByRecursion (λ c. T (is_letter c))) (L.begins_take (get_or lexicon i []) w b) (All-take (λ c. T (is_letter c)) (length w) (get_or lexicon i []) (ok.letters i h))

  index-at : (o i : ℕ) (w : List ℕ) → i < 1024 → 4 ≤ length w → begins_with (get_or lexicon i []) w ≡ true → index_at lexicon o w ≡ Ok i
  index-at o i w h n b =
      cond-true (leb 4 (length w)) (or_refusal (index_of lexicon w) (NoSuchWord o)) (Err (NoSuchWord o)) (le-leb 4 (length w) n)
      ∙ ap (λ x. or_refusal x (NoSuchWord o)) (counts_for i w h n b)

  pub none-forbidden : (o : ℕ) (ws l : List ℕ) → Spelled lexicon ws l → first_forbidden o l ≡ None
  none-forbidden o ws l end = refl
  none-forbidden o ws l (remark bytes) = refl
  none-forbidden o _ l (blank b ws l' t s) =
      ap (λ c. by_class c (first_forbidden (o + 1) l') None (first_forbidden (o + 1) l') (Some o)) (blank_class b t) ∙ none-forbidden (o + 1) ws l' s
  none-forbidden o ws l (word i w ws' l' h n b e s) = allowed o w l' (letters-of i w h b) ∙ none-forbidden (o + length w) ws' l' s

  pub spelled_indices : (o : ℕ) (ws l : List ℕ) → Spelled lexicon ws l → indices_in lexicon (pieces between o l) ≡ Ok ws
  spelled_indices o ws l end = refl
  spelled_indices o ws l (remark bytes) = refl
  spelled_indices o _ l (blank b ws l' t s) =
      let Q : Class → List Piece = λ c. by_class c (pieces between (o + 1) l') (line.remark o (b ∷ l') ∷ []) (pieces (in_word o (b ∷ [])) (o + 1) l') (pieces (in_word o (b ∷ [])) (o + 1) l') in
      ap (λ c. indices_in lexicon (Q c)) (blank_class b t) ∙ spelled_indices (o + 1) ws l' s
  spelled_indices o ws l (word i w ws' l' h n b e s) =
      ap (indices_in lexicon) (whole o w l' n (letters-of i w h b) e)
      ∙ ap₂ followed (index-at o i w h n b) (spelled_indices (o + length w) ws' l' s)

  pub spelled_read : (ws l : List ℕ) → Spelled lexicon ws l → reading lexicon l ≡ card_in ws
  spelled_read ws l s = ap₂ unless_forbidden (none-forbidden 0 ws l s) (ap then_card (spelled_indices 0 ws l s))

  -- ---- the text that is written
  pub text_spells : (ws : List ℕ) → AllBelowBase 1024 ws → Spelled lexicon ws (spaced (map (λ i. get_or lexicon i []) ws))
  text_spells [] h = end
  text_spells (i ∷ []) h =
      let w = get_or lexicon i [] in
      subst (Spelled lexicon (i ∷ [])) (append-nil w)
      (word i w [] [] h.0 (ok.least i h.0) (L.take_begins w w (take_all (length w) w (le_refl (length w)))) tt end)
  text_spells (i ∷ j ∷ ws) h =
      let w = get_or lexicon i [] in
      word i w (j ∷ ws) _ h.0 (ok.least i h.0) (L.take_begins w w (take_all (length w) w (le_refl (length w)))) (inl tt)
      (blank 32 (j ∷ ws) _ tt (text_spells (j ∷ ws) h.1))
