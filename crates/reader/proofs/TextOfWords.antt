-- The text of words, one word after the other.
use Rattle.std.proofs.Common.{◌≡◌, ℕ, zero, suc, ◌+◌, ◌-◌, ◌*◌, ◌<◌, ◌≤◌, List, [], ◌∷◌, ◌++◌, map, length, sum_by, get_or, take, drop, Some, Option, sym, refl, ap, ◌∙◌, ap₂, append_assoc, not-suc-le-zero, add-zero, arith, length-append}
use Rattle.std.proofs.lemmas.List.{take_more, map_push, take_all, drop-drop, drop_at, take_at, length-take-le, length-map, get_or-map}
use Rattle.std.proofs.lemmas.List.Sums.{sum_by-cons}
use Rattle.field.specs.declared.gf1024.Gf1024.{Gf1024}
use Rattle.checksum.specs.Values.{values}
use Rattle.reader.specs.Writing.{spaced, spell}

spaced-push : (x : List ℕ) (xs : List (List ℕ)) (w : List ℕ) → spaced ((x ∷ xs) ++ (w ∷ [])) ≡ spaced (x ∷ xs) ++ (32 ∷ w)
spaced-push x [] w = refl
spaced-push x (y ∷ xs) w =
    ap (λ l. x ++ (32 ∷ l)) (spaced-push y xs w) ∙ sym (append_assoc x (32 ∷ spaced (y ∷ xs)) (32 ∷ w))

module _ (lexicon : List (List ℕ)) where
  abbrev word : ℕ → List ℕ
  word i = get_or lexicon i []

  spell-push : (ks : List ℕ) (i : ℕ) → 1 ≤ length ks → spell lexicon (ks ++ (i ∷ [])) ≡ spell lexicon ks ++ (32 ∷ word i)
  spell-push [] i h = absurd (not-suc-le-zero h)
  spell-push (k ∷ ks) i h = ap spaced (map_push word (k ∷ ks) i) ∙ spaced-push (word k) (map word ks) (word i)

  pub spell_one : (ks : List ℕ) → 0 < length ks → spell lexicon (take 1 ks) ≡ word (get_or ks 0 0)
  spell_one [] h = absurd (not-suc-le-zero h)
  spell_one (k ∷ ks) h = refl

  pub spell-more : (ks : List ℕ) (k : ℕ) → 1 ≤ k → k < length ks → spell lexicon (take (k + 1) ks) ≡ spell lexicon (take k ks) ++ (32 ∷ word (get_or ks k 0))
  spell-more ks k h l =
      let size : length (take k ks) ≡ k = length-take-le k ks (omega arith) in
      ap (spell lexicon) (take_more ks k 0 l) ∙ spell-push (take k ks) (get_or ks k 0) (omega arith)

  pub more-length : (ks : List ℕ) (k : ℕ) → 1 ≤ k → k < length ks
      → length (spell lexicon (take (k + 1) ks)) ≡ length (spell lexicon (take k ks)) + (1 + length (word (get_or ks k 0)))
  more-length ks k h l =
      ap length (spell-more ks k h l) ∙ length-append (spell lexicon (take k ks)) (32 ∷ word (get_or ks k 0)) ∙ omega arith

  longer : (ks : List ℕ) (d k : ℕ) → 1 ≤ k → k + d ≤ length ks → length (spell lexicon (take k ks)) ≤ length (spell lexicon (take (k + d) ks))
  longer ks zero k h l = let e : length (spell lexicon (take (k + 0) ks)) ≡ length (spell lexicon (take k ks)) = ap (λ n. length (spell lexicon (take n ks))) (add-zero k) in omega arith
  longer ks (suc d) k h l =
      let next = longer ks d (k + 1) (omega arith) (omega arith) in
      let one = more-length ks k h (omega arith) in
      let e : length (spell lexicon (take (k + suc d) ks)) ≡ length (spell lexicon (take (k + 1 + d) ks)) = ap (λ n. length (spell lexicon (take n ks))) (omega arith) in
      omega arith

  pub front_length : (ks : List ℕ) (k : ℕ) → 1 ≤ k → k ≤ length ks → length (spell lexicon (take k ks)) ≤ length (spell lexicon ks)
  front_length ks k h l =
      let d = length ks - k in
      let e : length (spell lexicon (take (k + d) ks)) ≡ length (spell lexicon ks) = ap (λ m. length (spell lexicon m)) (take_all (k + d) ks (omega arith)) in
      let m = longer ks d k h (omega arith) in
      omega arith

  pub whole : (ks : List ℕ) (k : ℕ) → length ks ≤ k → spell lexicon (take k ks) ≡ spell lexicon ks
  whole ks k h = ap (spell lexicon) (take_all k ks h)

-- ---- how long a text is
module _ (lexicon : List (List ℕ)) where
  abbrev pub letters : Gf1024 → ℕ
  letters e = length (get_or lexicon e.value [])

  -- the letters, and a space between words
  pub letters-and-spaces : (ws : List Gf1024) → length (spell lexicon (values ws)) ≡ sum_by letters ws + (length ws - 1)
  letters-and-spaces [] = refl
  letters-and-spaces (w ∷ []) = omega (arith, sum_by-cons letters w [])
  letters-and-spaces (w ∷ v ∷ ws) =
      omega (arith, length-append (get_or lexicon w.value []) (32 ∷ spell lexicon (values (v ∷ ws))), letters-and-spaces (v ∷ ws), sum_by-cons letters w (v ∷ ws))

  pub letters-few : ((e : Gf1024) → letters e ≤ 8) → (ws : List Gf1024) → sum_by letters ws ≤ 8 * length ws
  letters-few few [] = omega arith
  letters-few few (w ∷ ws) = omega (arith, few w, letters-few few ws, sum_by-cons letters w ws)

-- ---- writing a part after what is written
pub written-more : (text part rest space : List ℕ) (at : ℕ) → space ≡ text ++ drop at rest → at ≡ length text
    → take at space ++ (part ++ drop (at + length part) space) ≡ (text ++ part) ++ drop (at + length part) rest
written-more text part rest space at e n =
    ap₂ ◌++◌ (ap (take at) e ∙ take_at text (drop at rest) at (sym n))
    (ap (λ l. part ++ l) (ap (drop (at + length part)) e ∙ sym (drop-drop (length part) at (text ++ drop at rest)) ∙ ap (drop (length part)) (drop_at text (drop at rest) at (sym n)) ∙ drop-drop (length part) at rest))
    ∙ sym (append_assoc text part (drop (at + length part) rest))

-- the first part
pub written-first : (text rest space : List ℕ) (at : ℕ) → space ≡ text ++ drop at rest → at ≡ length text → space ≡ text ++ drop at space
written-first text rest space at e n = e ∙ ap (λ l. text ++ l) (sym (ap (drop at) e ∙ drop_at text (drop at rest) at (sym n)))

pub rest-first : (text rest space : List ℕ) (at n : ℕ) → space ≡ text ++ drop at rest → at ≡ length text → at ≤ n → drop n space ≡ drop n rest
rest-first text rest space at n e l h =
    let m = n - at in
    let sum : at + m ≡ n = omega arith in
    ap (λ k. drop k space) (sym sum) ∙ sym (drop-drop m at space) ∙ ap (drop m) (ap (drop at) e ∙ drop_at text (drop at rest) at (sym l)) ∙ drop-drop m at rest ∙ ap (λ k. drop k rest) sum

-- the first word, written at the front
pub first-written : (o : Option ℕ) (end : ℕ) (bytes text space new : List ℕ) → o ≡ Some end
    → (0 + length bytes ≤ length space → o ≡ Some (0 + length bytes))
    → (0 + length bytes ≤ length space → new ≡ take 0 space ++ (bytes ++ drop (0 + length bytes) space))
    → bytes ≡ text → length text ≤ length space → (end ≡ length text) × (new ≡ text ++ drop end space)
first-written o end bytes text space new e ends holds is room =
    let fits : 0 + length bytes ≤ length space = omega (arith, ap length is) in
    let at : end ≡ 0 + length bytes = same-some o end (0 + length bytes) e (ends fits) in
    (omega (arith, at, ap length is), holds fits ∙ ap₂ (λ b n. b ++ drop n space) is (sym at))
  where
    same-some : (o : Option ℕ) (a b : ℕ) → o ≡ Some a → o ≡ Some b → a ≡ b
    same-some o a b p q = cc

-- an element after the first, among all
pub element-after : (words others : List Gf1024) (first e : Gf1024) (i : ℕ) → words ≡ first ∷ others → i < length others → e ≡ get_or others i e
    → (i + 1 < length (values words)) × (e.value ≡ get_or (values words) (i + 1) 0)
element-after words others first e i split lt is =
    let next : i + 1 ≡ suc i = omega arith in
    let size : length (values words) ≡ suc (length others) = length-map words (λ a. a.value) ∙ ap length split in
    let at : i + 1 < length words = omega (arith, ap length split) in (
      omega (arith, size),
      sym (get_or-map (λ a. a.value) words (i + 1) e 0 at ∙ ap (λ a. a.value) (ap₂ (λ l n. get_or l n e) split next ∙ sym is)),
    )
