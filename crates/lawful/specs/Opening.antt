-- What cards that meet the thresholds show: the encrypted secret that they hold, or the fault that makes them contradictory.
-- keyed is the keyed digest.
use Rattle.std.specs.Prelude.{◌≡◌, ℕ, ◌<◌, Bool, true, List, ◌∷◌, map, Some, None, Option}
use Rattle.std.specs.List.{AllByRecursion}
use Rattle.digest.specs.Keyed.{Bytes}
use Rattle.cipher.specs.Feistel.{under, decrypted}
use Rattle.sharing.specs.Curves.{Share, Curve, On, OnCurve}
use Rattle.reader.specs.Card.{Fields}
use Rattle.lawful.specs.LawfulDeal.{DealtBySome}
use Rattle.lawful.specs.Rows.{row_of, threshold_of, is_full, lacks_one, full_rows, group_threshold_of, Met, shares_of_row, Together}

module _ (keyed : List ℕ → List ℕ → List ℕ) (cards : List Fields) where
  -- the cards of a row lie on a curve of its threshold for this secret
  abbrev pub RowFits : ℕ → List ℕ → Type 0
  RowFits i secret = OnCurve keyed (threshold_of (row_of i cards)) secret (shares_of_row (row_of i cards))

  -- the full rows' secrets, as shares at the rows' numbers
  pub record RowSecrets (secrets : List Share) : Type 0 where
    pub rows : map (λ s. s.x) secrets ≡ full_rows cards
    pub fit : AllByRecursion (λ s. RowFits s.x s.value) secrets

  -- the full rows' secrets lie on this curve of the group threshold for the encrypted secret e
  pub record GroupCurve (e : List ℕ) (group_secret : ℕ → List ℕ) : Type 0 where
    pub secrets : List Share
    pub row_secrets : RowSecrets secrets
    pub curve : Curve keyed (group_threshold_of cards) e group_secret
    pub through : On group_secret secrets

  -- a row that lacks one card fits its group secret
  abbrev pub NearRowFits : (ℕ → List ℕ) → ℕ → Type 0
  NearRowFits group_secret i = lacks_one (row_of i cards) ≡ true → RowFits i (group_secret i)

  -- every full row lies on a curve, their secrets lie on one for e, and each row that lacks one card fits it
  pub record Holds (e : List ℕ) : Type 0 where
    pub group_secret : ℕ → List ℕ
    pub group_curve : GroupCurve e group_secret
    pub near_rows : (i : ℕ) → i < 16 → NearRowFits group_secret i

  -- the fault that is named: the lowest full row whose cards lie on no curve of its threshold; else none of the rows, if the full
  -- rows' secrets lie on no curve of the group threshold; else the lowest row that lacks one card and does not fit its group secret
  pub data Fault : Option ℕ → Type 0 where
    row_off : (i : ℕ) → i < 16 → is_full (row_of i cards) ≡ true → ((secret : List ℕ) → RowFits i secret → ⊥)
        → ((j : ℕ) → j < i → is_full (row_of j cards) ≡ true → (secret : List ℕ) × RowFits j secret)
        → Fault (Some i)
    groups_off : (secrets : List Share) → RowSecrets secrets → ((e : List ℕ) → OnCurve keyed (group_threshold_of cards) e secrets → ⊥) → Fault None
    near_row_off : (i : ℕ) → i < 16 → (e : List ℕ) (group_secret : ℕ → List ℕ) → GroupCurve e group_secret
        → lacks_one (row_of i cards) ≡ true → (RowFits i (group_secret i) → ⊥)
        → ((j : ℕ) → j < i → NearRowFits group_secret j)
        → Fault (Some i)

-- ---- theorems: what the cards show is what lawful deals say of them
pub record OpeningLaws (keyed : List ℕ → List ℕ → List ℕ) (function : ℕ → List ℕ → ℕ → Bool → ℕ → List ℕ → List ℕ) : Type 0 where
  -- if they hold e, a lawful deal of what e decrypts to dealt all of them
  pub some_deal : (passphrase : List ℕ) → Bytes passphrase → (card : Fields) (more : List Fields) → let cards = card ∷ more in
      Together cards → Met cards → (e : List ℕ) → Holds keyed cards e
      → DealtBySome keyed function passphrase (decrypted (under function passphrase card.identifier card.extendable card.exponent) e) cards
  -- if they have a fault, none of any secret did
  pub no_deal : (passphrase : List ℕ) (cards : List Fields) → Together cards → Met cards → (row : Option ℕ) → Fault keyed cards row
      → (m : List ℕ) → DealtBySome keyed function passphrase m cards → ⊥
  -- no two secrets fit
  pub one_secret : (passphrase : List ℕ) (cards : List Fields) → Together cards → Met cards
      → (m n : List ℕ) → DealtBySome keyed function passphrase m cards → DealtBySome keyed function passphrase n cards → m ≡ n
  -- cards show one encrypted secret or one fault, and not both
  pub one_held : (cards : List Fields) → Together cards → Met cards → (e f : List ℕ) → Holds keyed cards e → Holds keyed cards f → e ≡ f
  pub one_fault : (cards : List Fields) → Together cards → Met cards → (row other : Option ℕ) → Fault keyed cards row → Fault keyed cards other → row ≡ other
  pub not_both : (cards : List Fields) → Together cards → Met cards → (e : List ℕ) → Holds keyed cards e → (row : Option ℕ) → Fault keyed cards row → ⊥
