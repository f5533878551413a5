-- The indices of a line's words, one word after the other.
use Rattle.std.proofs.Common.{◌≡◌, ℕ, List, [], ◌∷◌, ◌++◌, Ok, Err, Result, sym, refl, ap, ◌∙◌, append_assoc, append-nil}
use Rattle.refusal.specs.declared.Refusal.{Refusal}
use Rattle.reader.specs.Line.{Piece, word, remark}
use Rattle.reader.specs.Reading.{index_at, indices_in, prefixed, followed}

pub prefixed-none : (r : Result (List ℕ) Refusal) → prefixed [] r ≡ r
prefixed-none (Ok ws) = refl
prefixed-none (Err e) = refl

pub prefixed-twice : (front more : List ℕ) (r : Result (List ℕ) Refusal) → prefixed front (prefixed more r) ≡ prefixed (front ++ more) r
prefixed-twice front more (Ok ws) = ap Ok (sym (append_assoc front more ws))
prefixed-twice front more (Err e) = refl

module _ (lexicon : List (List ℕ)) where
  pub one_more : (front : List ℕ) (offset v : ℕ) (bytes : List ℕ) (now later : List Piece) → now ≡ word offset bytes ∷ later → index_at lexicon offset bytes ≡ Ok v
      → prefixed front (indices_in lexicon now) ≡ prefixed (front ++ (v ∷ [])) (indices_in lexicon later)
  one_more front offset v bytes now later e i =
      ap (λ ps. prefixed front (indices_in lexicon ps)) e
      ∙ ap (λ r. prefixed front (followed r (indices_in lexicon later))) i
      ∙ prefixed-twice front (v ∷ []) (indices_in lexicon later)

  pub unknown : (front : List ℕ) (offset : ℕ) (refusal : Refusal) (bytes : List ℕ) (now later : List Piece) → now ≡ word offset bytes ∷ later → index_at lexicon offset bytes ≡ Err refusal
      → prefixed front (indices_in lexicon now) ≡ Err refusal
  unknown front offset refusal bytes now later e i =
      ap (λ ps. prefixed front (indices_in lexicon ps)) e ∙ ap (λ r. prefixed front (followed r (indices_in lexicon later))) i

  pub at-remark : (front : List ℕ) (offset : ℕ) (bytes : List ℕ) (now : List Piece) → now ≡ remark offset bytes ∷ [] → prefixed front (indices_in lexicon now) ≡ Ok front
  at-remark front offset bytes now e = ap (λ ps. prefixed front (indices_in lexicon ps)) e ∙ ap Ok (append-nil front)

  pub at-end : (front : List ℕ) (now : List Piece) → now ≡ [] → prefixed front (indices_in lexicon now) ≡ Ok front
  at-end front now e = ap (λ ps. prefixed front (indices_in lexicon ps)) e ∙ ap Ok (append-nil front)
