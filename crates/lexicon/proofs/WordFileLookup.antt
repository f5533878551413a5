-- How a word is found among words in byte order.
use Rattle.std.proofs.Common.{◌≡◌, ℕ, ◌+◌, ◌<◌, ◌≤◌, Bool, true, false, ◌&&◌, ltb, List, [], ◌++◌, length, get_or, take, drop, Some, None, Option, sym, refl, ap, ◌∙◌, inl, inr, arith, MatchOption}
use Rattle.std.specs.List.Sorted.{IsPartitionedBy}
use Rattle.std.proofs.lemmas.List.{take_at, take-append-drop, get_or_default}
use Rattle.std.proofs.lemmas.Bool.{cases_Bool, both_ways}
use Rattle.std.proofs.lemmas.Bool.Decides.{nat_tests}
use Rattle.numbers.specs.declared.word_index.WordIndex.{WordIndex}
use Rattle.lexicon.specs.ByteOrder.{comes_before}
use Rattle.lexicon.specs.Lexicon.{begins_with, index_of, found}
use Rattle.lexicon.specs.declared.word_file.WordFile.{WordFile}
use Rattle.lexicon.specs.ByteOrderLemmas.{transitive, begun_not_before, begun_between}
use Rattle.lexicon.specs.Lookup.{begins_take, take_begins, absent, several, alone}
use Rattle.lexicon.specs.WordFileWords.{earlier_before}

pub begins_decided : (word bytes : List ℕ) (r : Bool) → (r ≡ true → word ≡ bytes ++ drop (length bytes) word) × ((rest : List ℕ) → word ≡ bytes ++ rest → r ≡ true) → r ≡ begins_with word bytes
begins_decided word bytes r d =
    elim (cases_Bool (begins_with word bytes)) [
      | inl b ↦
          d.1 (drop (length bytes) word)
          (sym (take-append-drop (length bytes) word) ∙ ap (λ l. l ++ drop (length bytes) word) (begins_take word bytes b))
          ∙ sym b
      | inr n ↦
          elim (cases_Bool r) [
            | inl t ↦
                absurd (both_ways (begins_with word bytes) n
                (take_begins word bytes (ap (take (length bytes)) (d.0 t) ∙ take_at bytes (drop (length bytes) word) (length bytes) refl)))
            | inr f ↦ f ∙ sym n
          ]
    ]

-- ---- among the words of a file
module _ (file : WordFile) (bytes : List ℕ) where
  abbrev ws : List (List ℕ)
  ws = file.words

  abbrev Before : ℕ → Bool
  Before k = comes_before (get_or ws k []) bytes

  abbrev Begins : ℕ → Bool
  Begins k = ltb k 1024 && begins_with (get_or ws k []) bytes

  -- one word settles those on its side
  pub earlier : (m k : ℕ) → k ≤ m → m < 1024 → Before m ≡ true → Before k ≡ true
  earlier m k h l t = grind (arith, transitive (get_or ws k []) (get_or ws m []) bytes, earlier_before ws file.count file.sorted k m)

  pub later : (m k : ℕ) → m ≤ k → k < 1024 → Before m ≡ false → Before k ≡ false
  later m k h l f =
      elim (cases_Bool (Before k)) [
        | inl t ↦ absurd (both_ways (Before m) f (earlier k m h l t))
        | inr f' ↦ f'
      ]

  -- what the library's search asks
  pub parted : IsPartitionedBy (λ w. comes_before w bytes) ws
  parted i j d h l t = grind (arith, file.count, get_or_default ws i d [], get_or_default ws j d [], earlier j i)

  -- the words that begin with the bytes stand in a row from the first that does not come before them
  module _ (first : ℕ) (before : (k : ℕ) → k < first → Before k ≡ true) (after : (k : ℕ) → first ≤ k → k < 1024 → Before k ≡ false) where
    not_earlier : (k : ℕ) → k < 1024 → begins_with (get_or ws k []) bytes ≡ true → first ≤ k
    not_earlier k l b = grind (arith, before k, begun_not_before (get_or ws k []) bytes b)

    row : (j k : ℕ) → first ≤ j → j ≤ k → k < 1024 → begins_with (get_or ws k []) bytes ≡ true → Begins j ≡ true
    row j k h o l b = grind (arith, nat_tests, after j, earlier_before ws file.count file.sorted j k, begun_between (get_or ws j []) (get_or ws k []) bytes)

    begins_parts : (k : ℕ) → Begins k ≡ true → (k < 1024) × (begins_with (get_or ws k []) bytes ≡ true)
    begins_parts k t = grind (arith, nat_tests)

    pub none_found : false ≡ Begins first → None ≡ index_of ws bytes
    none_found f =
        let all = file.count in
        sym (absent bytes ws (λ j l b. grind (arith, nat_tests, not_earlier j, row first j)))

    pub two-found : true ≡ Begins first → true ≡ Begins (first + 1) → None ≡ index_of ws bytes
    two-found t u =
        let p = begins_parts first (sym t) in
        let q = begins_parts (first + 1) (sym u) in
        let all = file.count in
        sym (several bytes ws first (first + 1) (omega arith) (omega (arith, q.0)) p.1 q.1)

    one_found : true ≡ Begins first → false ≡ Begins (first + 1) → index_of ws bytes ≡ Some first
    one_found t f =
        let p = begins_parts first (sym t) in
        let all = file.count in
        alone bytes ws first (omega (arith, p.0)) p.1 (λ k l b. grind (arith, nat_tests, not_earlier k, row (first + 1) k))

    pub found-index : (o : Option WordIndex) → MatchOption o (0 ≤ first → 1023 < first) (λ i. i.value ≡ first) → true ≡ Begins first → false ≡ Begins (first + 1) → found o ≡ index_of ws bytes
    found-index None large t f = absurd (let within = (begins_parts first (sym t)).0 in let over : 1023 < first = large (omega arith) in omega arith)
    found-index (Some i) is t f = ap Some is ∙ sym (one_found t f)
