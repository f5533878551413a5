-- No two secrets are those of deals that dealt the same cards.
use Rattle.std.proofs.Common.{◌≡◌, ℕ, ◌≤◌, Bool, true, List, [], ◌∷◌, map, length, sym, ap, ◌∙◌, arith}
use Rattle.std.specs.List.{AllByRecursion}
use Rattle.std.proofs.ByRecursion.{All-weaker, All-map}
use Rattle.cipher.specs.Feistel.{under, encrypted}
use Rattle.cipher.proofs.Inverse.{undone}
use Rattle.reader.specs.Card.{Fields}
use Rattle.sharing.specs.Curves.{Share, CurveLaws}
use Rattle.lawful.specs.LawfulDeal.{LawfulDeal, Dealt, DealtBySome}
use Rattle.lawful.specs.Rows.{row_of, is_full, full_rows, Met, Together}
use Rattle.lawful.specs.Opening.{RowFits, RowSecrets, GroupCurve}
use Rattle.lawful.proofs.Lists.{map-map, map_same}
use Rattle.lawful.proofs.RowShares.{full_some, full_rows_full}
use Rattle.lawful.proofs.DealtRows.{row_fits, dealt_group_curve, secrets_on}
use Rattle.lawful.proofs.NoDeal.{group-secret-is}

module _ (keyed : List ℕ → List ℕ → List ℕ) (laws : CurveLaws keyed) (function : ℕ → List ℕ → ℕ → Bool → ℕ → List ℕ → List ℕ) (passphrase : List ℕ)
    (cards : List Fields) (together : Together cards) (met : Met cards) where
  -- the secrets that a deal's groups have, as shares at the full rows' numbers
  dealt_secrets : (ℕ → List ℕ) → List Share
  dealt_secrets group_secret = map (λ i. record { x = i; value = group_secret i }) (full_rows cards)

  dealt_row_secrets : (m : List ℕ) (by : DealtBySome keyed function passphrase m cards) → RowSecrets keyed cards (dealt_secrets by.0.group_secret)
  unfolding dealt_secrets
  dealt_row_secrets m (deal, dealt) =
      record {
        rows = map-map (λ i. record { x = i; value = deal.group_secret i }) (λ s. s.x) (full_rows cards) ∙ map_same (full_rows cards);
        fit = All-map (λ s. RowFits keyed cards s.x s.value) (λ i. record { x = i; value = deal.group_secret i }) (full_rows cards)
            (All-weaker (λ i. is_full (row_of i cards) ≡ true) (λ i. RowFits keyed cards i (deal.group_secret i))
            (λ i full. row_fits keyed laws function passphrase m deal cards together dealt i (full_some (row_of i cards) full)) (full_rows cards) (full_rows_full cards));
      }

  -- the full rows' secrets of dealt cards lie on the deal's curve
  pub dealt_group : (m : List ℕ) (by : DealtBySome keyed function passphrase m cards)
      → GroupCurve keyed cards (encrypted (under function passphrase by.0.identifier by.0.extendable by.0.exponent) m) by.0.group_secret
  dealt_group m (deal, dealt) =
      record {
        secrets = dealt_secrets deal.group_secret;
        row_secrets = dealt_row_secrets m (deal, dealt);
        curve = dealt_group_curve keyed laws function passphrase m deal cards together dealt met.0;
        through = secrets_on keyed laws function passphrase m deal cards together dealt (dealt_secrets deal.group_secret) (dealt_row_secrets m (deal, dealt));
      }

  -- two deals that dealt a card have its identifier, flag and exponent
  same_rounds : (m n : List ℕ) (a : LawfulDeal keyed function passphrase m) (b : LawfulDeal keyed function passphrase n) (cs : List Fields)
      → 1 ≤ length cs → AllByRecursion (Dealt keyed function passphrase m a) cs → AllByRecursion (Dealt keyed function passphrase n b) cs
      → encrypted (under function passphrase b.identifier b.extendable b.exponent) n ≡ encrypted (under function passphrase a.identifier a.extendable a.exponent) n
  same_rounds m n a b [] some p q = absurd (omega arith)
  same_rounds m n a b (c ∷ cs) some p q =
      let i : b.identifier ≡ a.identifier = sym q.0.identifier ∙ p.0.identifier in
      let x : b.extendable ≡ a.extendable = sym q.0.extendable ∙ p.0.extendable in
      let e : b.exponent ≡ a.exponent = sym q.0.exponent ∙ p.0.exponent in
      ap (λ k. encrypted (under function passphrase k b.extendable b.exponent) n) i
      ∙ ap (λ k. encrypted (under function passphrase a.identifier k b.exponent) n) x
      ∙ ap (λ k. encrypted (under function passphrase a.identifier a.extendable k) n) e

  pub one_secret : (m n : List ℕ) → DealtBySome keyed function passphrase m cards → DealtBySome keyed function passphrase n cards → m ≡ n
  one_secret m n (a, p) (b, q) =
      (undone (under function passphrase a.identifier a.extendable a.exponent)).apart m n a.length_fits b.length_fits
      ((group-secret-is keyed laws function passphrase cards together met n (b, q) _ a.group_secret (dealt_group m (a, p))).0 ∙ same_rounds m n a b cards met.0 p q)
