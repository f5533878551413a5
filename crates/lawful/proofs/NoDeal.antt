-- Cards with a fault were not all dealt by one lawful deal.
use Rattle.std.proofs.Common.{◌≡◌, ℕ, ◌+◌, ◌<◌, ◌≤◌, Bool, true, eqb, leb, List, length, Option, sym, subst, arith}
use Rattle.std.proofs.lemmas.Bool.{leb-true, and_parts}
use Rattle.cipher.specs.Feistel.{under, encrypted}
use Rattle.reader.specs.Card.{Fields}
use Rattle.sharing.specs.Curves.{CurveLaws}
use Rattle.lawful.specs.LawfulDeal.{DealtBySome}
use Rattle.lawful.specs.Rows.{row_of, threshold_of, lacks_one, group_threshold_of, Met, Together}
use Rattle.lawful.specs.Opening.{RowFits, GroupCurve, Fault, row_off, groups_off, near_row_off}
use Rattle.lawful.proofs.RowShares.{full_some}
use Rattle.lawful.proofs.DealtRows.{row_fits, dealt_group_curve, secrets_on, dealt_secrets_sound, secrets_enough}

pub near_some : (row : List Fields) → lacks_one row ≡ true → 1 ≤ length row
near_some row t = leb-true 1 (length row) (and_parts (leb 1 (length row)) (eqb (length row + 1) (threshold_of row)) t).0

module _ (keyed : List ℕ → List ℕ → List ℕ) (laws : CurveLaws keyed) (function : ℕ → List ℕ → ℕ → Bool → ℕ → List ℕ → List ℕ) (passphrase : List ℕ)
    (cards : List Fields) (together : Together cards) (met : Met cards) where
  -- of cards that a deal dealt, the curve through the full rows' secrets has the deal's group secrets
  pub group-secret-is : (m : List ℕ) (by : DealtBySome keyed function passphrase m cards) (e : List ℕ) (group_secret : ℕ → List ℕ) → GroupCurve keyed cards e group_secret
      → (e ≡ encrypted (under function passphrase by.0.identifier by.0.extendable by.0.exponent) m)
      × ((i : ℕ) → i < 256 → group_secret i ≡ by.0.group_secret i)
  group-secret-is m (deal, dealt) e group_secret curve =
      let secrets = curve.secrets in
      laws.one_curve (group_threshold_of cards) _ secrets
      (dealt_secrets_sound keyed laws function passphrase m deal cards together dealt secrets curve.row_secrets)
      (secrets_enough keyed cards secrets curve.row_secrets.rows met.1)
      e (encrypted (under function passphrase deal.identifier deal.extendable deal.exponent) m) group_secret deal.group_secret curve.curve curve.through
      (dealt_group_curve keyed laws function passphrase m deal cards together dealt met.0)
      (secrets_on keyed laws function passphrase m deal cards together dealt secrets curve.row_secrets)

  pub no_deal : (row : Option ℕ) → Fault keyed cards row → (m : List ℕ) → DealtBySome keyed function passphrase m cards → ⊥
  no_deal _ (row_off i h full off before) m (deal, dealt) =
      off (deal.group_secret i) (row_fits keyed laws function passphrase m deal cards together dealt i (full_some (row_of i cards) full))
  no_deal _ (groups_off secrets is off) m (deal, dealt) =
      off _ (
        deal.group_secret,
        dealt_group_curve keyed laws function passphrase m deal cards together dealt met.0,
        secrets_on keyed laws function passphrase m deal cards together dealt secrets is,
      )
  no_deal _ (near_row_off i h e group_secret curve lacks off before) m (deal, dealt) =
      off (subst (RowFits keyed cards i) (sym ((group-secret-is m (deal, dealt) e group_secret curve).1 i (omega arith)))
      (row_fits keyed laws function passphrase m deal cards together dealt i (near_some (row_of i cards) lacks)))
