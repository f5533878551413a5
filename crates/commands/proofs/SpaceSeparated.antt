-- The texts between spaces: the first of them, and those after it, one after the other.
use Rattle.std.proofs.Common.{◌≡◌, ℕ, ◌+◌, ◌-◌, ◌<◌, ◌≤◌, eqb, ltb, List, [], ◌∷◌, length, get_or, take, drop, Some, None, Option, position, sym, refl, ap, ◌∙◌, inl, inr, arith}
use Rattle.std.proofs.lemmas.List.{take_all, drop-drop, get_or-drop, get_or_past, length-drop}
use Rattle.std.proofs.lemmas.List.Splits.{slice_split_first, slice_split-cons_no}
use Rattle.std.proofs.lemmas.Bool.{cases_Bool, cases_lt, lt-ltb, le-ltb, ltb-true, ltb-false, cond-true, cond-false}
use Rattle.std.specs.List.{onto_first, position_or_len}
use Rattle.commands.specs.Arguments.{separated, texts_in}
use Rattle.commands.specs.Lines.{name_of, rest_of}
use Rattle.commands.proofs.DecimalNumbers.{some-passed, none-failed}

abbrev first : List ℕ → ℕ
first line = position_or_len (λ b. eqb b 32) line

one_text : (line : List ℕ) → length line ≤ first line → separated line ≡ line ∷ []
one_text [] h = refl
one_text (b ∷ bs) h =
    elim (cases_Bool (eqb b 32)) [
      | inl e ↦ absurd (let none = rw e at h in omega arith)
      | inr e ↦
          let more = rw e at h in
          slice_split-cons_no (λ x. eqb x 32) b bs e ∙ ap (onto_first b) (one_text bs (omega arith))
    ]

module _ (line : List ℕ) where
  pub texts-some : (end : ℕ) → Some end ≡ position (λ b. eqb b 32) line → separated line ≡ take end line ∷ separated (take (length line - (end + 1)) (drop (end + 1) line))
  texts-some end e =
      let p = some-passed (ltb (first line) (length line)) (first line) end e in
      let rest = take_all (length line - (end + 1)) (drop (end + 1) line) (omega (arith, length-drop (end + 1) line)) in
      slice_split_first (λ b. eqb b 32) line 0 (ltb-true (first line) (length line) p.0)
      ∙ ap (λ n. take n line ∷ separated (drop (n + 1) line)) (sym p.1)
      ∙ ap (λ l. take end line ∷ separated l) (sym rest)

  pub texts-none : None ≡ position (λ b. eqb b 32) line → separated line ≡ line ∷ []
  texts-none e = one_text line (ltb-false (first line) (length line) (none-failed (ltb (first line) (length line)) (first line) e))

-- the first text, and those after it
first_text : (line : List ℕ) → separated line ≡ name_of line ∷ texts_in (rest_of line)
first_text line =
    elim (cases_lt (first line) (length line)) [
      | inl h ↦
          slice_split_first (λ b. eqb b 32) line 0 h
          ∙ ap (λ o. name_of line ∷ texts_in o) (sym (cond-true (ltb (first line) (length line)) (Some (drop (first line + 1) line)) None (lt-ltb (first line) (length line) h)))
      | inr h ↦
          one_text line h
          ∙ ap (λ l. l ∷ []) (sym (take_all (first line) line h))
          ∙ ap (λ o. name_of line ∷ texts_in o) (sym (cond-false (ltb (first line) (length line)) (Some (drop (first line + 1) line)) None (le-ltb (first line) (length line) h)))
    ]

-- ---- the texts from the one at i on are those of what is left
module _ (texts : List (List ℕ)) (i : ℕ) (left : List ℕ) (h : separated left ≡ drop i texts) where
  here : (o : Option (List ℕ)) → o ≡ rest_of left → drop i texts ≡ name_of left ∷ texts_in o
  here o e = sym h ∙ first_text left ∙ ap (λ r. name_of left ∷ texts_in r) (sym e)

  pub next_texts : (rest : List ℕ) → Some rest ≡ rest_of left → separated rest ≡ drop (i + 1) texts
  next_texts rest e = ap (drop 1) (sym (here (Some rest) e)) ∙ drop-drop 1 i texts

  pub past_texts : (k : ℕ) → None ≡ rest_of left → i < k → [] ≡ get_or texts k []
  past_texts k e l = sym (get_or_past texts k [] (omega (arith, ap length (here None e), length-drop i texts)))

  pub text_here : (k : ℕ) → k ≡ i → name_of left ≡ get_or texts k []
  text_here k e = ap (λ l. get_or l 0 []) (sym (here (rest_of left) refl)) ∙ get_or-drop i texts 0 [] ∙ ap (λ n. get_or texts n []) (omega arith)
