-- A line of text as words and a remark. Space and tab part words, # opens the remark, which takes the rest of the line.
use Rattle.std.specs.Prelude.{◌≡◌, ℕ, ◌+◌, ◌<◌, Bool, cond, ◌||◌, List, [], ◌∷◌, ◌++◌, length, drop, Some, None, Option, ◌==◌}
use Rattle.lexicon.specs.Letters.{is_letter}
use Rattle.reader.specs.declared.line.Class.{Class}
use Rattle.reader.specs.declared.line.Class.TheVariants.{Blank, Hash, Letter, Forbidden}
use Rattle.reader.specs.declared.line.Token.{Token}
use Rattle.reader.specs.declared.line.Token.TheVariants.{Word, Remark, End}

abbrev pub is_blank : ℕ → Bool
is_blank b = b == 32 || b == 9

abbrev pub is_hash : ℕ → Bool
is_hash b = b == 35

abbrev pub class_of : ℕ → Class
class_of b = cond (is_blank b) Blank (cond (is_hash b) Hash (cond (is_letter b) Letter Forbidden))

abbrev pub by_class : {A : Type 0} → Class → A → A → A → A → A
by_class Blank blank hash letter forbidden = blank
by_class Hash blank hash letter forbidden = hash
by_class Letter blank hash letter forbidden = letter
by_class Forbidden blank hash letter forbidden = forbidden

-- where the first forbidden byte before the remark stands, the bytes being those from i on
abbrev pub first_forbidden : ℕ → List ℕ → Option ℕ
first_forbidden i [] = None
first_forbidden i (b ∷ bs) =
    by_class (class_of b) (first_forbidden (i + 1) bs) None (first_forbidden (i + 1) bs) (Some i)

-- A word or the remark, with its offset and its bytes.
pub data Piece : Type 0 where
  word : ℕ → List ℕ → Piece
  remark : ℕ → List ℕ → Piece

-- Between words, or in a word that began at an offset and has these bytes so far.
pub data Within : Type 0 where
  between : Within
  in_word : ℕ → List ℕ → Within

-- the pieces of the bytes from i on
abbrev pub pieces : Within → ℕ → List ℕ → List Piece
pieces between i [] = []
pieces (in_word o w) i [] = word o w ∷ []
pieces between i (b ∷ bs) =
    by_class (class_of b)
    (pieces between (i + 1) bs)
    (remark i (b ∷ bs) ∷ [])
    (pieces (in_word i (b ∷ [])) (i + 1) bs)
    (pieces (in_word i (b ∷ [])) (i + 1) bs)
pieces (in_word o w) i (b ∷ bs) =
    by_class (class_of b)
    (word o w ∷ pieces between (i + 1) bs)
    (word o w ∷ remark i (b ∷ bs) ∷ [])
    (pieces (in_word o (w ++ (b ∷ []))) (i + 1) bs)
    (pieces (in_word o (w ++ (b ∷ []))) (i + 1) bs)

-- the pieces that are still to come at a position between tokens
abbrev pub pieces_from : List ℕ → ℕ → List Piece
pieces_from line p = pieces between p (drop p line)

-- The token is the next piece, or the end where none is left, and the reader goes from position p to position q.
abbrev pub Gives : List ℕ → ℕ → Token → ℕ → Type 0
Gives line p (Word o t) q = (pieces_from line p ≡ word o t.now ∷ pieces_from line q) × (p < q)
Gives line p (Remark o t) q = (pieces_from line p ≡ remark o t.now ∷ []) × (q ≡ length line)
Gives line p (End o) q = (pieces_from line p ≡ []) × (o ≡ length line) × (q ≡ length line)
