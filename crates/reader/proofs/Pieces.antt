-- The pieces of a line, one byte after the other, as the state machine sees them.
use Rattle.std.proofs.Common.{◌≡◌, ℕ, ◌+◌, ◌-◌, ◌<◌, ◌≤◌, ◌⊎◌, List, [], ◌∷◌, ◌++◌, length, get_or, take, drop, sym, ap, ◌∙◌, subst, ap₂, inl, inr, arith, length-drop}
use Rattle.std.proofs.lemmas.List.{at_drop_more, at_drop_all, take_more, get_or-drop, get_or-take, take_all, drop_more}
use Rattle.reader.specs.declared.line.State.{State}
use Rattle.reader.specs.declared.line.State.TheVariants.{Between, InWord, InRemark}
use Rattle.reader.specs.declared.line.Class.{Class}
use Rattle.reader.specs.declared.line.Class.TheVariants.{Blank, Hash, Letter, Forbidden}
use Rattle.reader.specs.Line.{class_of, by_class, Piece, word, remark, between, in_word, pieces, pieces_from}

abbrev pub part : ℕ → ℕ → List ℕ → List ℕ
part i j line = take (j - i) (drop i line)

part-more : (start i : ℕ) (line : List ℕ) → start ≤ i → i < length line → part start (i + 1) line ≡ part start i line ++ (get_or line i 0 ∷ [])
part-more start i line h k =
    let n : i + 1 - start ≡ i - start + 1 = omega arith in
    let l : i - start < length (drop start line) = simp length-drop (omega arith) in
    let at : start + (i - start) ≡ i = omega arith in
    ap (λ m. take m (drop start line)) n
    ∙ take_more (drop start line) (i - start) 0 l
    ∙ ap (λ b. part start i line ++ (b ∷ [])) (get_or-drop start line (i - start) 0 ∙ ap (λ m. get_or line m 0) at)

-- what is to come, in each state
abbrev pub told : List ℕ → State → ℕ → List Piece
told line Between i = pieces_from line i
told line (InWord start) i = pieces (in_word start (part start i line)) i (drop i line)
told line (InRemark start) i = remark start (drop start line) ∷ []

-- a word or a remark began since position p
abbrev pub Began : ℕ → State → ℕ → Type 0
Began p Between i = Unit {0}
Began p (InWord start) i = (p ≤ start) × (start < i)
Began p (InRemark start) i = (p ≤ start) × (start < i)

-- one turn from state s to state t, which are a and b
pub went : (line : List ℕ) (p i j : ℕ) (s t a b : State) → s ≡ a → t ≡ b → j ≡ i + 1 → Began p b (i + 1) → told line a i ≡ told line b (i + 1)
    → Began p t j × (told line s i ≡ told line t j)
went line p i j s t a b es et ej h e = (
  subst (Began p t) (sym ej) (subst (λ x. Began p x (i + 1)) (sym et) h),
  ap (λ x. told line x i) es ∙ e ∙ ap (λ x. told line x (i + 1)) (sym et) ∙ ap (told line t) (sym ej),
)

-- a byte of what is left of the line
pub byte-left : (line : List ℕ) (p k : ℕ) → k < length line - p → get_or (take (length line - p) (drop p line)) k 0 ≡ get_or line (p + k) 0
byte-left line p k h = get_or-take (length line - p) (drop p line) k 0 h ∙ get_or-drop p line k 0

pub bytes-left : (line : List ℕ) (p : ℕ) → length (take (length line - p) (drop p line)) ≡ length line - p
bytes-left line p = ap length (take_all (length line - p) (drop p line) (omega (arith, length-drop p line))) ∙ length-drop p line

module _ (line : List ℕ) (i : ℕ) (lt : i < length line) where
  rest : List ℕ
  rest = drop (i + 1) line

  pub opened : (k : Class) → k ≡ class_of (get_or line i 0)
      → pieces_from line i
      ≡ by_class k (pieces_from line (i + 1)) (remark i (drop i line) ∷ []) (pieces (in_word i (get_or line i 0 ∷ [])) (i + 1) (drop (i + 1) line)) (pieces (in_word i (get_or line i 0 ∷ [])) (i + 1) (drop (i + 1) line))
  opened k e =
      at_drop_more (pieces between i) line i 0 lt
      ∙ ap₂ (λ c l. by_class c (pieces_from line (i + 1)) (remark i l ∷ []) (pieces (in_word i (get_or line i 0 ∷ [])) (i + 1) (drop (i + 1) line)) (pieces (in_word i (get_or line i 0 ∷ [])) (i + 1) (drop (i + 1) line)))
      (sym e) (sym (drop_more line i 0 lt))

  pub inside : (o : ℕ) (w : List ℕ) (k : Class) → k ≡ class_of (get_or line i 0)
      → pieces (in_word o w) i (drop i line)
      ≡ by_class k (word o w ∷ pieces_from line (i + 1)) (word o w ∷ remark i (drop i line) ∷ []) (pieces (in_word o (w ++ (get_or line i 0 ∷ []))) (i + 1) (drop (i + 1) line)) (pieces (in_word o (w ++ (get_or line i 0 ∷ []))) (i + 1) (drop (i + 1) line))
  inside o w k e =
      at_drop_more (pieces (in_word o w) i) line i 0 lt
      ∙ ap₂ (λ c l. by_class c (word o w ∷ pieces_from line (i + 1)) (word o w ∷ remark i l ∷ []) (pieces (in_word o (w ++ (get_or line i 0 ∷ []))) (i + 1) (drop (i + 1) line)) (pieces (in_word o (w ++ (get_or line i 0 ∷ []))) (i + 1) (drop (i + 1) line)))
      (sym e) (sym (drop_more line i 0 lt))

  one : get_or line i 0 ∷ [] ≡ part i (i + 1) line
  one =
      let n : i + 1 - i ≡ 1 = omega arith in
      sym (ap₂ take n (drop_more line i 0 lt))

  pub blank : Blank ≡ class_of (get_or line i 0) → told line Between i ≡ told line Between (i + 1)
  blank e = opened Blank e

  pub hash : Hash ≡ class_of (get_or line i 0) → told line Between i ≡ told line (InRemark i) (i + 1)
  hash e = opened Hash e

  pub letter : (k : Class) → k ≡ class_of (get_or line i 0) → (k ≡ Letter) ⊎ (k ≡ Forbidden) → told line Between i ≡ told line (InWord i) (i + 1)
  letter k e (inl h) = opened Letter (sym h ∙ e) ∙ ap (λ w. pieces (in_word i w) (i + 1) (drop (i + 1) line)) one
  letter k e (inr h) = opened Forbidden (sym h ∙ e) ∙ ap (λ w. pieces (in_word i w) (i + 1) (drop (i + 1) line)) one

  pub longer : (start : ℕ) → start ≤ i → (k : Class) → k ≡ class_of (get_or line i 0) → (k ≡ Letter) ⊎ (k ≡ Forbidden)
      → told line (InWord start) i ≡ told line (InWord start) (i + 1)
  longer start h k e (inl is) =
      inside start (part start i line) Letter (sym is ∙ e) ∙ ap (λ w. pieces (in_word start w) (i + 1) (drop (i + 1) line)) (sym (part-more start i line h lt))
  longer start h k e (inr is) =
      inside start (part start i line) Forbidden (sym is ∙ e) ∙ ap (λ w. pieces (in_word start w) (i + 1) (drop (i + 1) line)) (sym (part-more start i line h lt))

  -- a word ends before a blank or a #
  pub before_blank : (start : ℕ) → Blank ≡ class_of (get_or line i 0) → told line (InWord start) i ≡ word start (part start i line) ∷ pieces_from line i
  before_blank start e = inside start (part start i line) Blank e ∙ ap (λ ps. word start (part start i line) ∷ ps) (sym (opened Blank e))

  pub before_hash : (start : ℕ) → Hash ≡ class_of (get_or line i 0) → told line (InWord start) i ≡ word start (part start i line) ∷ pieces_from line i
  before_hash start e = inside start (part start i line) Hash e ∙ ap (λ ps. word start (part start i line) ∷ ps) (sym (opened Hash e))

-- at the end of the line
module _ (line : List ℕ) (i : ℕ) (le : length line ≤ i) where
  pub ended : pieces_from line i ≡ []
  ended = at_drop_all (pieces between i) line i le

  pub word-ended : (start : ℕ) → told line (InWord start) i ≡ word start (part start i line) ∷ pieces_from line i
  word-ended start =
      at_drop_all (pieces (in_word start (part start i line)) i) line i le ∙ ap (λ ps. word start (part start i line) ∷ ps) (sym ended)

  pub remark_ended : (start : ℕ) → drop start line ≡ part start i line
  remark_ended start =
      let l : length (drop start line) ≤ i - start = simp length-drop (omega arith) in
      sym (take_all (i - start) (drop start line) l)
