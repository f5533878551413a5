-- Lawful deals: how a master secret is dealt onto cards, and which cards a deal dealt.
-- keyed is the keyed digest, and function the round function.
use Rattle.std.specs.Prelude.{◌≡◌, ℕ, ◌<◌, ◌≤◌, Bool, true, List, length}
use Rattle.std.specs.List.{AllByRecursion}
use Rattle.digest.specs.Keyed.{Bytes}
use Rattle.cipher.specs.Feistel.{under, encrypted, is_secret_length}
use Rattle.sharing.specs.Curves.{Curve}
use Rattle.reader.specs.Card.{Fields}

module _ (keyed : List ℕ → List ℕ → List ℕ) (function : ℕ → List ℕ → ℕ → Bool → ℕ → List ℕ → List ℕ) where
  -- a lawful deal of the master secret m under a passphrase
  pub record LawfulDeal (passphrase m : List ℕ) : Type 0 where
    pub identifier : ℕ
    pub identifier_fits : identifier < 32768
    pub extendable : Bool
    pub exponent : ℕ
    pub exponent_fits : exponent < 16
    -- the secret has an even number of bytes, 16 to 64
    pub bytes : Bytes m
    pub length_fits : is_secret_length (length m) ≡ true
    -- as many groups as the group threshold are wanted, of at most 16
    pub group_threshold : ℕ
    pub group_count : ℕ
    pub some_groups : 1 ≤ group_threshold
    pub enough_groups : group_threshold ≤ group_count
    pub few_groups : group_count ≤ 16
    -- and of each group as many members as its member threshold, of at most 16; a group of threshold 1 has one member
    pub member_threshold : ℕ → ℕ
    pub member_count : ℕ → ℕ
    pub some_members : (i : ℕ) → i < group_count → 1 ≤ member_threshold i
    pub enough_members : (i : ℕ) → i < group_count → member_threshold i ≤ member_count i
    pub few_members : (i : ℕ) → i < group_count → member_count i ≤ 16
    pub alone : (i : ℕ) → i < group_count → member_threshold i ≡ 1 → member_count i ≡ 1
    -- the group secrets are the values at 0, 1, .. of one curve for the encrypted secret
    pub group_secret : ℕ → List ℕ
    pub group_curve : Curve keyed group_threshold (encrypted (under function passphrase identifier extendable exponent) m) group_secret
    -- the values of a group's cards are the values at 0, 1, .. of a curve for its secret
    pub card_value : ℕ → ℕ → List ℕ
    pub member_curves : (i : ℕ) → i < group_count → Curve keyed (member_threshold i) (group_secret i) (card_value i)

  -- the deal dealt this card
  pub record Dealt (passphrase m : List ℕ) (deal : LawfulDeal passphrase m) (card : Fields) : Type 0 where
    pub identifier : card.identifier ≡ deal.identifier
    pub extendable : card.extendable ≡ deal.extendable
    pub exponent : card.exponent ≡ deal.exponent
    pub value_length : length card.value ≡ length m
    pub group_threshold : card.group_threshold ≡ deal.group_threshold
    pub group_count : card.group_count ≡ deal.group_count
    pub group : card.group < deal.group_count
    pub member_threshold : card.member_threshold ≡ deal.member_threshold card.group
    pub member : card.member < deal.member_count card.group
    pub value : card.value ≡ deal.card_value card.group card.member

  -- some lawful deal of m under the passphrase dealt all of these cards
  abbrev pub DealtBySome : List ℕ → List ℕ → List Fields → Type 0
  DealtBySome passphrase m cards = (deal : LawfulDeal passphrase m) × AllByRecursion (Dealt passphrase m deal) cards
