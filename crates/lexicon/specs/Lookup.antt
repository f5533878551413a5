-- How an index is looked up among words: what shows that bytes begin one word, no word, or several.
use Rattle.std.specs.Prelude.{◌≡◌, ℕ, zero, suc, ◌+◌, ◌<◌, ◌≤◌, true, ◌&&◌, List, [], ◌∷◌, length, take, Some, None, Option, ◌≢◌, nat_eq, slice_index_or, refl}
use Rattle.std.specs.Bool.{Decides}
use Rattle.std.specs.List.{starts_with}
use Rattle.std.proofs.Common.{sym, ap, ap₂, ◌∙◌, inl, inr, arith}
use Rattle.std.proofs.lemmas.Bool.{cases_lt}
use Rattle.std.proofs.lemmas.Bool.Decides.{Decides-eqb}
use Rattle.std.proofs.lemmas.Cmp.{nat_eq_equiv}
use Rattle.std.proofs.lemmas.Grind.{common_steps}
use Rattle.std.proofs.lemmas.Slice.Eq.{slice_eq-Decides}
use Rattle.lexicon.specs.Lexicon.{begins_with, indices, only, index_of}

-- the library's test
pub starts_is_begins : (word bytes : List ℕ) → starts_with nat_eq word bytes ≡ begins_with word bytes
starts_is_begins [] [] = refl
starts_is_begins [] (b ∷ bytes) = refl
starts_is_begins (w ∷ word) [] = refl
starts_is_begins (w ∷ word) (b ∷ bytes) = ap₂ ◌&&◌ (nat_eq_equiv.symm b w) (starts_is_begins word bytes)

-- a word begins with bytes that are its own first ones
decided : (w bs : List ℕ) → Decides (begins_with w bs) (bs ≡ take (length bs) w)
decided w bs = slice_eq-Decides Decides-eqb bs (take (length bs) w) (begins_with w bs) (sym (starts_is_begins w bs))

pub begins_take : (w bs : List ℕ) → begins_with w bs ≡ true → take (length bs) w ≡ bs
begins_take w bs e = sym ((decided w bs).0 e)

pub take_begins : (w bs : List ℕ) → take (length bs) w ≡ bs → begins_with w bs ≡ true
take_begins w bs e = (decided w bs).1 (sym e)

many : (l : List ℕ) → 1 < length l → only l ≡ None
many [] h = grind arith
many (a ∷ []) h = grind arith
many (a ∷ b ∷ l) h = refl

alone_is : (l : List ℕ) (a : ℕ) → only l ≡ Some a → l ≡ a ∷ []
alone_is [] a e = grind arith
alone_is (b ∷ []) a e = grind arith
alone_is (b ∷ c ∷ l) a e = grind arith

module _ (bs : List ℕ) where
  abbrev Begins : List (List ℕ) → ℕ → Type 0
  Begins ws j = begins_with (slice_index_or ws j []) bs ≡ true

  pub none : (ws : List (List ℕ)) (i : ℕ) → ((j : ℕ) → j < length ws → Begins ws j → ⊥) → indices ws i bs ≡ []
  none [] i h = refl
  none (w ∷ ws) i h = grind (arith, common_steps, h 0, none ws (i + 1) (λ j k e. h (suc j) (omega arith) e))

  pub absent : (ws : List (List ℕ)) → ((j : ℕ) → j < length ws → Begins ws j → ⊥) → index_of ws bs ≡ None
  absent ws h = ap only (none ws 0 h)

  pub one : (ws : List (List ℕ)) (i j : ℕ) → j < length ws → Begins ws j → ((k : ℕ) → k < length ws → Begins ws k → k ≡ j) → indices ws i bs ≡ (i + j) ∷ []
  one [] i j l b u = grind arith
  one (w ∷ ws) i zero l b u = grind (arith, common_steps, none ws (i + 1) (λ k h e. let z : suc k ≡ 0 = u (suc k) (omega arith) e in omega arith))
  one (w ∷ ws) i (suc j) l b u =
      grind (arith, common_steps, u 0, one ws (i + 1) j (omega arith) b (λ k h e. let z : suc k ≡ suc j = u (suc k) (omega arith) e in omega arith))

  pub alone : (ws : List (List ℕ)) (j : ℕ) → j < length ws → Begins ws j → ((k : ℕ) → k < length ws → Begins ws k → k ≡ j) → index_of ws bs ≡ Some j
  alone ws j l b u = ap only (one ws 0 j l b u) ∙ ap Some (omega arith)

  some : (ws : List (List ℕ)) (i j : ℕ) → j < length ws → Begins ws j → 0 < length (indices ws i bs)
  some [] i j l b = grind arith
  some (w ∷ ws) i zero l b = grind (arith, common_steps)
  some (w ∷ ws) i (suc j) l b = grind (arith, common_steps, some ws (i + 1) j)

  two : (ws : List (List ℕ)) (i j k : ℕ) → j < k → k < length ws → Begins ws j → Begins ws k → 1 < length (indices ws i bs)
  two [] i j k h l b b' = grind arith
  two (w ∷ ws) i j zero h l b b' = grind arith
  two (w ∷ ws) i zero (suc k) h l b b' = grind (arith, common_steps, some ws (i + 1) k)
  two (w ∷ ws) i (suc j) (suc k) h l b b' = grind (arith, common_steps, two ws (i + 1) j k)

  pub several : (ws : List (List ℕ)) (j k : ℕ) → j < k → k < length ws → Begins ws j → Begins ws k → index_of ws bs ≡ None
  several ws j k h l b b' = many (indices ws 0 bs) (two ws 0 j k h l b b')

  -- an index that is found is that of a word that begins with the bytes
  within : (ws : List (List ℕ)) (i a : ℕ) (more : List ℕ) → indices ws i bs ≡ a ∷ more → (i ≤ a) × (a < i + length ws)
  within [] i a more e = grind arith
  within (w ∷ ws) i a more e = grind (arith, common_steps, within ws (i + 1) a more)

  sound : (ws : List (List ℕ)) (i j : ℕ) (more : List ℕ) → indices ws i bs ≡ (i + j) ∷ more → Begins ws j
  sound [] i j more e = grind arith
  sound (w ∷ ws) i zero more e = grind (arith, common_steps, within ws (i + 1) (i + 0) more)
  sound (w ∷ ws) i (suc j) more e = grind (arith, common_steps, sound ws (i + 1) j more)

  pub found_below : (ws : List (List ℕ)) (a : ℕ) → index_of ws bs ≡ Some a → a < length ws
  found_below ws a e = grind (arith, within ws 0 a [] (alone_is (indices ws 0 bs) a e))

  found_begins : (ws : List (List ℕ)) (a : ℕ) → index_of ws bs ≡ Some a → Begins ws a
  found_begins ws a e = let is = alone_is (indices ws 0 bs) a e in sound ws 0 a [] (grind arith)

  -- where each word that begins with the bytes has another one, none is the only one
  pub paired : (ws : List (List ℕ)) → ((j : ℕ) → j < length ws → Begins ws j → (k : ℕ) × ((k < length ws) × ((k ≢ j) × Begins ws k))) → index_of ws bs ≡ None
  paired ws other = by (index_of ws bs) refl
    where
      by : (o : Option ℕ) → index_of ws bs ≡ o → index_of ws bs ≡ None
      by None e = e
      by (Some a) e =
          let l = found_below ws a e in
          let b = found_begins ws a e in
          let s = other a l b in
          elim (cases_lt a s.0) [
            | inl h ↦ several ws a s.0 h s.1.0 b s.1.1.1
            | inr h ↦ several ws s.0 a (let n = s.1.1.0 in omega arith) l s.1.1.1 b
          ]
