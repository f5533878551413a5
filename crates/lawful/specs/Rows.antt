-- Cards that lie together: their rows, one for each group, and whether the thresholds are met.
use Rattle.std.specs.Prelude.{◌≡◌, ℕ, ◌+◌, ◌*◌, ◌≤◌, Bool, ◌&&◌, List, [], ◌∷◌, map, length, filter, ◌==◌, nat_eq, nat_le, nat_lt}
use Rattle.std.specs.List.{range_with_len, AllByRecursion}
use Rattle.field.specs.Interpolation.{Distinct}
use Rattle.reader.specs.Card.{Fields}
use Rattle.reader.specs.Writing.{Lawful}
use Rattle.sharing.specs.Curves.{Share}

-- the cards of a group
abbrev pub row_of : ℕ → List Fields → List Fields
row_of group cards = filter (λ c. nat_eq c.group group) cards

-- the member threshold that binds a row; 0 if no card lies in it
abbrev pub threshold_of : List Fields → ℕ
threshold_of [] = 0
threshold_of (card ∷ more) = card.member_threshold

-- as many cards as the threshold lie in the row, or more
abbrev pub is_full : List Fields → Bool
is_full row = nat_le 1 (length row) && nat_le (threshold_of row) (length row)

-- some cards lie in the row, and too few
abbrev pub is_partly_filled : List Fields → Bool
is_partly_filled row = nat_le 1 (length row) && nat_lt (length row) (threshold_of row)

-- one card fewer than the threshold, which is 2 or more
abbrev pub lacks_one : List Fields → Bool
lacks_one row = nat_le 1 (length row) && length row + 1 == threshold_of row

-- the numbers of the full rows, ascending
unfoldable pub full_rows : List Fields → List ℕ
full_rows cards = filter (λ i. is_full (row_of i cards)) (range_with_len 0 16)

-- the group threshold that binds the cards; 0 if there is none
abbrev pub group_threshold_of : List Fields → ℕ
group_threshold_of [] = 0
group_threshold_of (card ∷ more) = card.group_threshold

-- the thresholds are met: a card lies, and at least as many rows are full as the group threshold asks
abbrev pub Met : List Fields → Type 0
Met cards = (1 ≤ length cards) × (group_threshold_of cards ≤ length (full_rows cards))

-- the cards of a row as shares: the member number is the place
abbrev pub shares_of_row : List Fields → List Share
shares_of_row row = map (λ c. record { x = c.member; value = c.value }) row

-- two cards agree in what binds the tray, and in what binds their row if they are of one group
pub record Agree (a b : Fields) : Type 0 where
  pub identifier : a.identifier ≡ b.identifier
  pub extendable : a.extendable ≡ b.extendable
  pub exponent : a.exponent ≡ b.exponent
  pub group_threshold : a.group_threshold ≡ b.group_threshold
  pub group_count : a.group_count ≡ b.group_count
  pub value_length : length a.value ≡ length b.value
  pub member_threshold : a.group ≡ b.group → a.member_threshold ≡ b.member_threshold

-- cards that can lie in one tray: no two at one place, and each two agree
pub record Together (cards : List Fields) : Type 0 where
  pub lawful : AllByRecursion Lawful cards
  pub places : Distinct (map (λ c. 16 * c.group + c.member) cards)
  pub agree : AllByRecursion (λ a. AllByRecursion (Agree a) cards) cards
