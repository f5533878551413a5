-- What the reader promises of cards, lines and damage.
use Rattle.std.proofs.Common.{◌≡◌, ℕ, ◌<◌, ◌≤◌, false, eqb, leb, List, [], ◌∷◌, map, length, Some, None, Ok, Err, Option, Result, sym, refl, ap, ◌∙◌, subst, ap₂, arith}
use Rattle.std.specs.Int.Digits.{AllBelowBase}
use Rattle.std.proofs.lemmas.List.{length-map}
use Rattle.std.proofs.lemmas.Bool.{and_parts, leb-true}
use Rattle.refusal.specs.declared.Refusal.{Refusal}
use Rattle.refusal.specs.declared.Refusal.TheVariants.{NoSuchWord, WordCount, WrongChecksum}
use Rattle.field.specs.Gf1024.{element}
use Rattle.checksum.specs.Values.{values}
use Rattle.reader.specs.Card.{Fields}
use Rattle.checksum.specs.Checksum.{is_right, differing, differences}
use Rattle.lexicon.specs.Lexicon.{index_of}
use Rattle.lexicon.specs.Lexicon as lexicons
use Rattle.reader.specs.Line.{Piece, word, remark, first_forbidden, pieces_from}
use Rattle.reader.specs.Reading.{or_refusal, index_at, followed, indices_in, count_fits, fields_in, checked_words, card_in, then_card, unless_forbidden, reading}
use Rattle.reader.specs.Spelling.{Damaged, ReadAs, Notices, WritesBack}
use Rattle.reader.specs.Writing.{Lawful, words_of, text_of}
use Rattle.reader.proofs.CardRoundTrip.{words_small, words-say, words_right, written_read, read_written, words-fit, demanded}
use Rattle.reader.proofs.CheckedFields.{passed, refused}
use Rattle.checksum.proofs.CheckWords.{values-elements}
use Rattle.checksum.proofs.ChecksumDetects.{detects}
use Rattle.checksum.proofs.ChecksumRemainder.{is_right-ones}
use Rattle.lexicon.specs.Lookup as L
use Rattle.reader.proofs.SpelledLines as S

-- ---- damage
module _ (f : Fields) (ok : Lawful f) where
  damaged_wrong : (others : List ℕ) → Damaged (words_of f) others → is_right f.extendable others ≡ false
  damaged_wrong others d =
      let ws = words_of f in
      let back = values-elements ws (words_small f ok) in
      let long : length (map element others) ≡ length (map element ws) = length-map others element ∙ d.same_length ∙ sym (length-map ws element) in
      let most : length ws ≤ 59 = leb-true (length ws) 59 (and_parts (leb (length ws) 59) _ (and_parts (leb 20 (length ws)) _ (words-fit f ok)).1).0 in
      let same : differences (map element ws) (map element others) ≡ differing ws others = ap₂ differing back (values-elements others d.indices) in
      let size : length (map element ws) ≡ length ws = length-map ws element in
      sym (ap (is_right f.extendable) (values-elements others d.indices))
      ∙ detects f.extendable (map element ws) (is_right-ones f.extendable (values (map element ws)) (ap (is_right f.extendable) back ∙ words_right f ok))
      (map element others) long (omega arith) (omega (arith, d.some)) (omega (arith, d.few))

  pub damaged_refused : (others : List ℕ) → Damaged (words_of f) others → card_in others ≡ Err WrongChecksum
  damaged_refused others d =
      let flag : (fields_in others).extendable ≡ f.extendable = ap (λ b. eqb b 1) d.flag_kept ∙ ap (λ g. g.extendable) (words-say f ok) in
      passed (count_fits (length others)) (WordCount (length others)) (checked_words others) (ap count_fits d.same_length ∙ words-fit f ok)
      ∙ refused (is_right (fields_in others).extendable others) WrongChecksum _ (ap (λ e. is_right e others) flag ∙ damaged_wrong others d)

-- ---- indices are below 1,024
module _ (lexicon : List (List ℕ)) (lawful : lexicons.Lawful lexicon) where
  index_small : (o i : ℕ) (w : List ℕ) → index_at lexicon o w ≡ Ok i → i < 1024
  index_small o i w e = by (index_of lexicon w) refl (demanded (leb 4 (length w)) (NoSuchWord o) (or_refusal (index_of lexicon w) (NoSuchWord o)) i e).1
    where
      by : (r : Option ℕ) → index_of lexicon w ≡ r → or_refusal (index_of lexicon w) (NoSuchWord o) ≡ Ok i → i < 1024
      by None q e = absurd (let h : or_refusal None (NoSuchWord o) ≡ Ok i = sym (ap (λ r. or_refusal r (NoSuchWord o)) q) ∙ e in let z : ◌≡◌ {A = ℕ} 0 1 = cc in omega arith)
      by (Some j) q e =
          let h : or_refusal (Some j) (NoSuchWord o) ≡ Ok i = sym (ap (λ r. or_refusal r (NoSuchWord o)) q) ∙ e in
          let same : j ≡ i = cc in
          let b = L.found_below w lexicon j q in
          omega (arith, lawful.count)

  same_list : (a b : List ℕ) → ◌≡◌ {A = Result (List ℕ) Refusal} (Ok a) (Ok b) → a ≡ b
  same_list a b e = cc

  followed-small : (o : ℕ) (bytes ws : List ℕ) (r : Result ℕ Refusal) (s : Result (List ℕ) Refusal) → index_at lexicon o bytes ≡ r
      → ((vs : List ℕ) → s ≡ Ok vs → AllBelowBase 1024 vs) → followed r s ≡ Ok ws → AllBelowBase 1024 ws
  followed-small o bytes ws (Err x) s q rest e = absurd (let z : ◌≡◌ {A = ℕ} 0 1 = cc in omega arith)
  followed-small o bytes ws (Ok i) (Err x) q rest e = absurd (let z : ◌≡◌ {A = ℕ} 0 1 = cc in omega arith)
  followed-small o bytes ws (Ok i) (Ok vs) q rest e = subst (AllBelowBase 1024) (same_list (i ∷ vs) ws e) (index_small o i bytes q, rest vs refl)

  indices-small : (ps : List Piece) (ws : List ℕ) → indices_in lexicon ps ≡ Ok ws → AllBelowBase 1024 ws
  indices-small [] ws e = subst (AllBelowBase 1024) (same_list [] ws e) tt
  indices-small (remark o bytes ∷ ps) ws e = indices-small ps ws e
  indices-small (word o bytes ∷ ps) ws e =
      followed-small o bytes ws (index_at lexicon o bytes) (indices_in lexicon ps) refl (λ vs p. indices-small ps vs p) e

  -- a line that is read
  pub record Read (line : List ℕ) (f : Fields) : Type 0 where
    pub fields : Lawful f
    pub back : WritesBack lexicon line f

  pub read_back : (line : List ℕ) (f : Fields) → reading lexicon line ≡ Ok f → Read line f
  read_back line f e = by (first_forbidden 0 line) refl (indices_in lexicon (pieces_from line 0)) refl e
    where
      by : (o : Option ℕ) → first_forbidden 0 line ≡ o → (r : Result (List ℕ) Refusal) → indices_in lexicon (pieces_from line 0) ≡ r → unless_forbidden o (then_card r) ≡ Ok f → Read line f
      by (Some o) q r p e = absurd (let z : ◌≡◌ {A = ℕ} 0 1 = cc in omega arith)
      by None q (Err x) p e = absurd (let z : ◌≡◌ {A = ℕ} 0 1 = cc in omega arith)
      by None q (Ok ws) p e =
          let h = read_written ws f (indices-small (pieces_from line 0) ws p) e in
          record { fields = h.1; back = p ∙ ap Ok (sym h.0) }

  pub read_as : (f : Fields) → Lawful f → ReadAs lexicon f
  read_as f ok line s = S.spelled_read lexicon lawful (words_of f) line s ∙ written_read f ok

  pub text_read : (f : Fields) → Lawful f → reading lexicon (text_of lexicon f) ≡ Ok f
  text_read f ok = read_as f ok (text_of lexicon f) (S.text_spells lexicon lawful (words_of f) (words_small f ok))

  pub notices : (f : Fields) → Lawful f → Notices lexicon f
  notices f ok others line d s = S.spelled_read lexicon lawful others line s ∙ damaged_refused f ok others d
