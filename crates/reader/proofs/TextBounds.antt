-- How long the text of words can be, and which bytes it has.
use Rattle.std.proofs.Common.{◌≡◌, ℕ, ◌-◌, ◌*◌, ◌≤◌, Bool, true, false, ◌||◌, T, eqb, leb, List, [], ◌∷◌, length, get_or, sym, ap, subst, inl, inr, arith, length-append}
use Rattle.std.proofs.ByRecursion.{All-append, All-weaker}
use Rattle.std.proofs.lemmas.List.{get_or_past}
use Rattle.std.proofs.lemmas.Bool.{and_parts, cases_lt, leb-true}
use Rattle.reader.specs.Card.{Fields}
use Rattle.lexicon.specs.Lexicon as lexicons
use Rattle.lexicon.specs.Letters.{is_letter}
use Rattle.reader.specs.Writing.{Lawful, Plain, words_of, spell, text_of}
use Rattle.reader.proofs.CardRoundTrip.{words-fit}

abbrev PlainByte : ℕ → Type 0
PlainByte b = T (is_letter b || eqb b 32)

either : (x y : Bool) → T x → T (x || y)
either true y t = tt
either false y t = absurd t

module _ (lexicon : List (List ℕ)) (lawful : lexicons.Lawful lexicon) where
  none : (i : ℕ) → 1024 ≤ i → get_or lexicon i [] ≡ []
  none i h = get_or_past lexicon i [] (omega (arith, lawful.count))

  word-short : (i : ℕ) → length (get_or lexicon i []) ≤ 8
  word-short i = elim (cases_lt i 1024) [ inl h ↦ lawful.most i h | inr h ↦ omega (arith, ap length (none i h)) ]

  word-plain : (i : ℕ) → Plain (get_or lexicon i [])
  word-plain i =
      elim (cases_lt i 1024) [
        | inl h ↦ All-weaker (λ b. T (is_letter b)) PlainByte (λ b. either (is_letter b) (eqb b 32)) (get_or lexicon i []) (lawful.letters i h)
        | inr h ↦ subst Plain (sym (none i h)) tt
      ]

  -- no more than nine bytes for each word, of which the last has no space after it
  spell-short : (ks : List ℕ) → length (spell lexicon ks) ≤ 9 * length ks - 1
  spell-short [] = omega arith
  spell-short (k ∷ []) = omega (arith, word-short k)
  spell-short (k ∷ next ∷ more) =
      omega (arith, word-short k, spell-short (next ∷ more), length-append (get_or lexicon k []) (32 ∷ spell lexicon (next ∷ more)))

  spell-plain : (ks : List ℕ) → Plain (spell lexicon ks)
  spell-plain [] = tt
  spell-plain (k ∷ []) = word-plain k
  spell-plain (k ∷ next ∷ more) =
      All-append PlainByte (get_or lexicon k []) (32 ∷ spell lexicon (next ∷ more)) (word-plain k) (tt, spell-plain (next ∷ more))

  pub text_short : (f : Fields) → Lawful f → length (text_of lexicon f) ≤ 530
  text_short f ok =
      let ws = words_of f in
      let most : length ws ≤ 59 = leb-true (length ws) 59 (and_parts (leb (length ws) 59) _ (and_parts (leb 20 (length ws)) _ (words-fit f ok)).1).0 in
      omega (arith, spell-short ws)

  pub text_plain : (f : Fields) → Plain (text_of lexicon f)
  text_plain f = spell-plain (words_of f)
