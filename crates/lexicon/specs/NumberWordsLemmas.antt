-- The words of the number lexicon: each is four digits, and no two are alike.
use Rattle.std.specs.Prelude.{◌≡◌, ℕ, ◌+◌, ◌-◌, ◌*◌, ◌/◌, ◌%◌, ◌<◌, ◌≤◌, true, T, List, [], ◌∷◌, length, take, Some, None, Option, MatchOption, ◌≢◌, slice_index, slice_index_or}
use Rattle.std.proofs.Math.Path.{sym, ap, ap₂}
use Rattle.std.proofs.Common.{subst, ◌∙◌, inl, inr}
use native.Mathlib.Omega.{arith}
use Rattle.std.specs.List.{AllByRecursion}
use Rattle.std.proofs.lemmas.List.FromFn.{length-map-range_with_len, get_or-map-range_with_len}
use Rattle.std.proofs.lemmas.Bool.Decides.{nat_tests}
use Rattle.std.proofs.lemmas.Bool.{cases_lt}
use Rattle.std.proofs.lemmas.List.{take_all, take-take}
use Rattle.numbers.specs.declared.word_index.WordIndex.{WordIndex}
use Rattle.lexicon.specs.Letters.{is_letter}
use Rattle.lexicon.specs.Lexicon.{Lawful, begins_with, index_of, found as found_in}
use Rattle.lexicon.specs.NumberWords.{digits, numbered}
use Rattle.lexicon.specs.Lookup as L

pub length-numbered : (n : ℕ) → length (numbered n) ≡ n
unfolding numbered
length-numbered n = length-map-range_with_len digits 0 n

pub numbered-at : (n i : ℕ) → i < n → slice_index_or (numbered n) i [] ≡ digits i
unfolding numbered
numbered-at n i h = get_or-map-range_with_len digits 0 n i i [] h (omega arith)

pub same_number : (m n : ℕ) → m < 10000 → n < 10000 → digits m ≡ digits n → m ≡ n
same_number m n hm hn e = grind arith

pub four-digits : (l : List ℕ) (a b c d : ℕ) → length l ≡ 4 → a < 10 → b < 10 → c < 10 → d < 10
    → slice_index l 0 ≡ 48 + a → slice_index l 1 ≡ 48 + b → slice_index l 2 ≡ 48 + c → slice_index l 3 ≡ 48 + d → l ≡ digits (a * 1000 + b * 100 + c * 10 + d)
four-digits [] a b c d n ha hb hc hd ea eb ec ed = absurd (omega arith)
four-digits (w ∷ []) a b c d n ha hb hc hd ea eb ec ed = absurd (omega arith)
four-digits (w ∷ x ∷ []) a b c d n ha hb hc hd ea eb ec ed = absurd (omega arith)
four-digits (w ∷ x ∷ y ∷ []) a b c d n ha hb hc hd ea eb ec ed = absurd (omega arith)
four-digits (w ∷ x ∷ y ∷ z ∷ v ∷ l) a b c d n ha hb hc hd ea eb ec ed = absurd (omega arith)
four-digits (w ∷ x ∷ y ∷ z ∷ []) a b c d n ha hb hc hd ea eb ec ed =
    let N = a * 1000 + b * 100 + c * 10 + d in
    let e0 : w ≡ 48 + N / 1000 = omega arith in
    let e1 : x ≡ 48 + N / 100 % 10 = omega arith in
    let e2 : y ≡ 48 + N / 10 % 10 = omega arith in
    let e3 : z ≡ 48 + N % 10 = omega arith in
    ap₂ ◌∷◌ e0 (ap₂ ◌∷◌ e1 (ap₂ ◌∷◌ e2 (ap (λ t. t ∷ []) e3)))

-- ---- the lexicon
letter : (d : ℕ) → d < 10 → T (is_letter (48 + d))
letter d h = grind (arith, nat_tests)

pub lawful : Lawful (numbered 1024)
lawful =
    record {
      count = length-numbered 1024;
      least = λ i h. let e : length (slice_index_or (numbered 1024) i []) ≡ 4 = ap length (numbered-at 1024 i h) in omega arith;
      most = λ i h. let e : length (slice_index_or (numbered 1024) i []) ≡ 4 = ap length (numbered-at 1024 i h) in omega arith;
      letters = λ i h.
          subst (AllByRecursion (λ b. T (is_letter b))) (sym (numbered-at 1024 i h))
          (letter (i / 1000) (omega arith), (letter (i / 100 % 10) (omega arith), (letter (i / 10 % 10) (omega arith), (letter (i % 10) (omega arith), tt))));
      apart = λ i j h k e.
          same_number i j (omega arith) (omega arith)
          (sym (ap (take 4) (numbered-at 1024 i h)) ∙ e ∙ ap (take 4) (numbered-at 1024 j k));
    }

-- ---- looking up
module _ (bs : List ℕ) where
  abbrev Begins : ℕ → Type 0
  Begins j = begins_with (slice_index_or (numbered 1024) j []) bs ≡ true

  begins_digits : (j : ℕ) → j < 1024 → Begins j → take (length bs) (digits j) ≡ bs
  begins_digits j h b = grind (arith, L.begins_take (digits j) bs, numbered-at 1024 j h)

  pub found : (n : ℕ) → n < 1024 → bs ≡ digits n → index_of (numbered 1024) bs ≡ Some n
  found n h e =
      let four : length bs ≡ 4 = ap length e in
      let l : length (numbered 1024) ≡ 1024 = length-numbered 1024 in
      L.alone bs (numbered 1024) n (omega arith)
      (L.take_begins (slice_index_or (numbered 1024) n []) bs (ap₂ take four (numbered-at 1024 n h) ∙ sym e))
      (λ k lk b.
      let hk : k < 1024 = omega arith in
      same_number k n (omega arith) (omega arith) (sym (ap (λ m. take m (digits k)) four) ∙ begins_digits k hk b ∙ e))

  -- another number whose first three digits are the same
  sibling : ℕ → ℕ
  sibling j = j / 10 * 10 + (1 - j % 10)

  sibling_other : (j : ℕ) → sibling j ≢ j
  unfolding sibling
  sibling_other j e = omega arith

  shorter : (m j : ℕ) → m < 4 → take m (digits (sibling j)) ≡ take m (digits j)
  unfolding sibling
  shorter m j h =
      let e0 : 48 + sibling j / 1000 ≡ 48 + j / 1000 = omega arith in
      let e1 : 48 + sibling j / 100 % 10 ≡ 48 + j / 100 % 10 = omega arith in
      let e2 : 48 + sibling j / 10 % 10 ≡ 48 + j / 10 % 10 = omega arith in
      let three : take 3 (digits (sibling j)) ≡ take 3 (digits j) = ap₂ ◌∷◌ e0 (ap₂ ◌∷◌ e1 (ap (λ t. t ∷ []) e2)) in
      sym (take-take m 3 (digits (sibling j)) (omega arith)) ∙ ap (take m) three ∙ take-take m 3 (digits j) (omega arith)

  -- fewer than four digits begin no word, or several
  pub short : length bs < 4 → index_of (numbered 1024) bs ≡ None
  unfolding sibling
  short h =
      let l : length (numbered 1024) ≡ 1024 = length-numbered 1024 in
      L.paired bs (numbered 1024)
      (λ j lj b.
      let hj : j < 1024 = omega arith in
      let hs : sibling j < 1024 = omega arith in (
        sibling j,
        (
          omega arith,
          (
            sibling_other j,
            L.take_begins (slice_index_or (numbered 1024) (sibling j) []) bs
                (ap (take (length bs)) (numbered-at 1024 (sibling j) hs) ∙ shorter (length bs) j h ∙ begins_digits j hj b),
          ),
        ),
      ))

  -- four or more bytes that are no number's digits begin no word
  pub unknown : ((n : ℕ) → n < 1024 → bs ≢ digits n) → index_of (numbered 1024) bs ≡ None
  unknown wrong =
      elim (cases_lt (length bs) 4) [
        | inl h ↦ short h
        | inr h ↦
            let l : length (numbered 1024) ≡ 1024 = length-numbered 1024 in
            L.absent bs (numbered 1024)
            (λ j lj b.
            let hj : j < 1024 = omega arith in
            wrong j hj (sym (begins_digits j hj b) ∙ take_all (length bs) (digits j) (omega arith)))
      ]

  -- the index that a number gives, if it gives one
  pub looked_up : (n : ℕ) (o : Option WordIndex) → n < 10000 → bs ≡ digits n → MatchOption o (0 ≤ n → 1023 < n) (λ i. i.value ≡ n) → found_in o ≡ index_of (numbered 1024) bs
  looked_up n None h e large = sym (unknown (λ m k e'. grind (arith, large, same_number m n)))
  looked_up n (Some i) h e is = grind (arith, i.bound, found n)
