-- The rows of cards that lie together: their shares, their thresholds and the numbers of the full ones.
use Rattle.std.proofs.Common.{◌≡◌, ℕ, ◌+◌, ◌*◌, ◌<◌, ◌≤◌, true, eqb, leb, List, [], ◌∷◌, map, length, filter, refl, subst, arith}
use Rattle.std.specs.List.{range_with_len, AllByRecursion}
use Rattle.std.proofs.ByRecursion.{all_kept_by, kept_by_passes, All-weaker, All-map}
use Rattle.std.proofs.lemmas.Bool.{cond_both, eqb-true, eq-eqb, leb-true, and_parts}
use Rattle.field.specs.Interpolation.{Distinct}
use Rattle.field.proofs.Lagrange.{In, of_in, all_in}
use Rattle.digest.specs.Keyed.{Bytes}
use Rattle.reader.specs.Card.{Fields}
use Rattle.reader.specs.Writing.{Lawful}
use Rattle.sharing.specs.Curves.{Share, Shares}
use Rattle.sharing.proofs.CurveTheorems.{distinct_counting, all-counting-low}
use Rattle.lawful.specs.Rows.{row_of, threshold_of, is_full, full_rows, shares_of_row, Agree, Together}
use Rattle.lawful.proofs.Lists.{in_kept, in_counting, some_in, distinct_kept, bytes-under}

-- ---- rows of any cards
abbrev places : List Share → List ℕ
places shares = map (λ s. s.x) shares

pub row-group : (i : ℕ) (cards : List Fields) → AllByRecursion (λ c. c.group ≡ i) (row_of i cards)
row-group i cards = All-weaker (λ c. eqb c.group i ≡ true) (λ c. c.group ≡ i) (λ c t. eqb-true c.group i t) (row_of i cards) (kept_by_passes (λ c. eqb c.group i) cards)

pub all_row : (P : Fields → Type 0) (i : ℕ) (cards : List Fields) → AllByRecursion P cards → AllByRecursion P (row_of i cards)
all_row P i cards all = all_kept_by (λ c. eqb c.group i) P cards all

pub in_row : (i : ℕ) (c : Fields) (cards : List Fields) → In c cards → c.group ≡ i → In c (row_of i cards)
in_row i c cards n e = in_kept (λ c. eqb c.group i) c cards n (eq-eqb c.group i e)

-- what holds of every share of a row, from the cards
pub all-shares : (P : Share → Type 0) (row : List Fields) → AllByRecursion (λ c. P (record { x = c.member; value = c.value })) row → AllByRecursion P (shares_of_row row)
all-shares P row all = All-map P (λ c. record { x = c.member; value = c.value }) row all

-- no two cards of a row are of one member
far-members : (c : Fields) (cards : List Fields) → AllByRecursion (λ y. y ≡ 16 * c.group + c.member → ⊥) (map (λ c. 16 * c.group + c.member) cards)
    → AllByRecursion (λ y. y ≡ c.member → ⊥) (places (shares_of_row (row_of c.group cards)))
far-members c [] far = tt
far-members c (d ∷ cards) far =
    cond_both (eqb d.group c.group) (d ∷ row_of c.group cards) (row_of c.group cards) (λ row. AllByRecursion (λ y. y ≡ c.member → ⊥) (places (shares_of_row row)))
    (λ t. let e = eqb-true d.group c.group t in ((λ m. far.0 (omega arith)), far-members c cards far.1)) (λ _. far-members c cards far.1)

distinct_members : (i : ℕ) (cards : List Fields) → Distinct (map (λ c. 16 * c.group + c.member) cards) → Distinct (places (shares_of_row (row_of i cards)))
distinct_members i [] d = tt
distinct_members i (c ∷ cards) d =
    cond_both (eqb c.group i) (c ∷ row_of i cards) (row_of i cards) (λ row. Distinct (places (shares_of_row row)))
    (λ t. (subst (λ g. AllByRecursion (λ y. y ≡ c.member → ⊥) (places (shares_of_row (row_of g cards)))) (eqb-true c.group i t) (far-members c cards d.0), distinct_members i cards d.1))
    (λ _. distinct_members i cards d.1)

-- ---- full rows
pub full_some : (row : List Fields) → is_full row ≡ true → 1 ≤ length row
full_some row t = leb-true 1 (length row) (and_parts (leb 1 (length row)) (leb (threshold_of row) (length row)) t).0

pub full_enough : (row : List Fields) → is_full row ≡ true → threshold_of row ≤ length row
full_enough row t = leb-true (threshold_of row) (length row) (and_parts (leb 1 (length row)) (leb (threshold_of row) (length row)) t).1

abbrev kept_of : ℕ → List Fields → List ℕ
kept_of n cards = filter (λ i. is_full (row_of i cards)) (range_with_len 0 n)

kept_full : (n : ℕ) (cards : List Fields) → AllByRecursion (λ i. is_full (row_of i cards) ≡ true) (kept_of n cards)
kept_full n cards = kept_by_passes (λ i. is_full (row_of i cards)) (range_with_len 0 n)

kept_low : (n : ℕ) (cards : List Fields) → AllByRecursion (λ i. i < n) (kept_of n cards)
kept_low n cards = all_kept_by (λ i. is_full (row_of i cards)) (λ i. i < n) (range_with_len 0 n) (all-counting-low n 0 n (omega arith))

kept-distinct : (n : ℕ) (cards : List Fields) → Distinct (kept_of n cards)
kept-distinct n cards = distinct_kept (λ i. is_full (row_of i cards)) (range_with_len 0 n) (distinct_counting 0 n)

kept_in : (n i : ℕ) (cards : List Fields) → i < n → is_full (row_of i cards) ≡ true → In i (kept_of n cards)
kept_in n i cards h t = in_kept (λ i. is_full (row_of i cards)) i (range_with_len 0 n) (in_counting 0 n i (omega arith) (omega arith)) t

pub full_rows_full : (cards : List Fields) → AllByRecursion (λ i. is_full (row_of i cards) ≡ true) (full_rows cards)
unfolding full_rows
full_rows_full cards = kept_full 16 cards

pub full_rows_low : (cards : List Fields) → AllByRecursion (λ i. i < 16) (full_rows cards)
unfolding full_rows
full_rows_low cards = kept_low 16 cards

pub full_rows_distinct : (cards : List Fields) → Distinct (full_rows cards)
unfolding full_rows
full_rows_distinct cards = kept-distinct 16 cards

pub full_rows_in : (i : ℕ) (cards : List Fields) → i < 16 → is_full (row_of i cards) ≡ true → In i (full_rows cards)
unfolding full_rows
full_rows_in i cards h t = kept_in 16 i cards h t

-- ---- cards that lie together
module _ (cards : List Fields) (together : Together cards) where
  -- the cards of a row, as shares with values of n bytes
  pub row-shares : (n i : ℕ) → AllByRecursion (λ c. length c.value ≡ n) cards → Shares n (shares_of_row (row_of i cards))
  row-shares n i sized =
      record {
        distinct = distinct_members i cards together.places;
        places = all-shares (λ s. s.x < 256) (row_of i cards) (all_row (λ c. c.member < 256) i cards (of_lawful (λ c. c.member < 256) (λ c l. let m = l.member in omega arith)));
        lengths = all-shares (λ s. length s.value ≡ n) (row_of i cards) (all_row (λ c. length c.value ≡ n) i cards sized);
        bytes = all-shares (λ s. Bytes s.value) (row_of i cards) (all_row (λ c. Bytes c.value) i cards (of_lawful (λ c. Bytes c.value) (λ c l. bytes-under c.value l.value_bytes)));
      }
    where
      of_lawful : (P : Fields → Type 0) → ((c : Fields) → Lawful c → P c) → AllByRecursion P cards
      of_lawful P f = All-weaker Lawful P f cards together.lawful

  -- they are at places from 0 to 15
  pub row_low : (i : ℕ) → AllByRecursion (λ s. s.x < 16) (shares_of_row (row_of i cards))
  row_low i = all-shares (λ s. s.x < 16) (row_of i cards) (all_row (λ c. c.member < 16) i cards (All-weaker Lawful (λ c. c.member < 16) (λ c l. l.member) cards together.lawful))

  pub agree_of : (a b : Fields) → In a cards → In b cards → Agree a b
  agree_of a b m n = of_in (Agree a) b cards (of_in (λ a. AllByRecursion (Agree a) cards) a cards together.agree m) n

  pub lawful_of : (c : Fields) → In c cards → Lawful c
  lawful_of c m = of_in Lawful c cards together.lawful m

  -- the threshold of a card's row is the card's
  pub threshold_is : (c : Fields) → In c cards → threshold_of (row_of c.group cards) ≡ c.member_threshold
  threshold_is c m =
      first (row_of c.group cards) (in_row c.group c cards m refl)
      (all_row (λ d. d.group ≡ c.group → d.member_threshold ≡ c.member_threshold) c.group cards
      (all_in (λ d. d.group ≡ c.group → d.member_threshold ≡ c.member_threshold) cards (λ d n. (agree_of d c n m).member_threshold)))
      (row-group c.group cards)
    where
      first : (row : List Fields) → In c row → AllByRecursion (λ d. d.group ≡ c.group → d.member_threshold ≡ c.member_threshold) row → AllByRecursion (λ d. d.group ≡ c.group) row
          → threshold_of row ≡ c.member_threshold
      first [] n same group = absurd (omega (arith, some_in [] c n))
      first (d ∷ row) n same group = same.0 group.0

  -- a row with a card in it has a threshold from 1 to 16
  pub threshold_range : (i : ℕ) → 1 ≤ length (row_of i cards) → (1 ≤ threshold_of (row_of i cards)) × (threshold_of (row_of i cards) ≤ 16)
  threshold_range i some = first (row_of i cards) some (all_row Lawful i cards together.lawful)
    where
      first : (row : List Fields) → 1 ≤ length row → AllByRecursion Lawful row → (1 ≤ threshold_of row) × (threshold_of row ≤ 16)
      first [] some lawful = absurd (omega arith)
      first (c ∷ row) some lawful = (lawful.0.member_threshold_least, lawful.0.member_threshold_most)
