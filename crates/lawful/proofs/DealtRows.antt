-- What a lawful deal that dealt all cards says of their rows.
use Rattle.std.proofs.Common.{◌≡◌, ℕ, ◌<◌, ◌≤◌, Bool, true, List, [], ◌∷◌, map, length, sym, ap, ◌∙◌, subst, arith}
use lib.ListN.{length-map}
use Rattle.std.specs.List.{AllByRecursion}
use Rattle.std.proofs.ByRecursion.{All-weaker}
use Rattle.field.specs.Interpolation.{Distinct}
use Rattle.digest.specs.Keyed.{Bytes}
use Rattle.cipher.specs.Feistel.{under, encrypted}
use Rattle.reader.specs.Card.{Fields}
use Rattle.sharing.specs.Curves.{Share, Shares, Curve, On, CurveLaws}
use Rattle.sharing.proofs.CurveTheorems.{curve_polynomials}
use Rattle.sharing.proofs.PositionPolynomials as Positions
use Rattle.lawful.specs.LawfulDeal.{LawfulDeal, Dealt}
use Rattle.lawful.specs.Rows.{row_of, threshold_of, is_full, full_rows, group_threshold_of, shares_of_row, Together}
use Rattle.lawful.specs.Opening.{RowFits, RowSecrets}
use Rattle.lawful.proofs.Lists.{all_of_map, all_join}
use Rattle.lawful.proofs.RowShares.{row-group, all_row, full_some, full_enough, full_rows_full, full_rows_low, full_rows_distinct, row-shares}

module _ (keyed : List ℕ → List ℕ → List ℕ) where
  -- ---- curves
  pub curve_length : (t : ℕ) (secret : List ℕ) (f : ℕ → List ℕ) → Curve keyed t secret f → (x : ℕ) → x < 256 → length (f x) ≡ length secret
  curve_length t secret f c = Positions.length-value (length secret) t f (curve_polynomials keyed t secret f c)

  pub curve_bytes : (t : ℕ) (secret : List ℕ) (f : ℕ → List ℕ) → Curve keyed t secret f → (x : ℕ) → x < 256 → Bytes (f x)
  curve_bytes t secret f c = Positions.bytes-value (length secret) t f (curve_polynomials keyed t secret f c)

  -- ---- the full rows' secrets
  -- on a curve they are shares with values as long as its secret
  pub secrets_sound : (cards : List Fields) (t : ℕ) (e : List ℕ) (f : ℕ → List ℕ) → Curve keyed t e f → (secrets : List Share)
      → map (λ s. s.x) secrets ≡ full_rows cards → On f secrets → Shares (length e) secrets
  secrets_sound cards t e f c secrets rows on =
      record {
        distinct = subst Distinct (sym rows) (full_rows_distinct cards);
        places = small;
        lengths = all_join (λ s. s.x < 256) (λ s. f s.x ≡ s.value) (λ s. length s.value ≡ length e) (λ s l o. ap length (sym o) ∙ curve_length t e f c s.x l) secrets small on;
        bytes = all_join (λ s. s.x < 256) (λ s. f s.x ≡ s.value) (λ s. Bytes s.value) (λ s l o. subst Bytes o (curve_bytes t e f c s.x l)) secrets small on;
      }
    where
      small : AllByRecursion (λ s. s.x < 256) secrets
      small = all_of_map (λ i. i < 256) (λ s. s.x) secrets
          (subst (AllByRecursion (λ i. i < 256)) (sym rows) (All-weaker (λ i. i < 16) (λ i. i < 256) (λ i l. omega arith) (full_rows cards) (full_rows_low cards)))

  pub secrets_enough : (cards : List Fields) (secrets : List Share) → map (λ s. s.x) secrets ≡ full_rows cards
      → group_threshold_of cards ≤ length (full_rows cards) → group_threshold_of cards ≤ length secrets
  secrets_enough cards secrets rows met = subst (λ k. group_threshold_of cards ≤ k) (sym (ap length rows) ∙ length-map secrets (λ s. s.x)) met

module _ (keyed : List ℕ → List ℕ → List ℕ) (laws : CurveLaws keyed) (function : ℕ → List ℕ → ℕ → Bool → ℕ → List ℕ → List ℕ)
    (passphrase m : List ℕ) (deal : LawfulDeal keyed function passphrase m)
    (cards : List Fields) (together : Together cards) (dealt : AllByRecursion (Dealt keyed function passphrase m deal) cards) where
  -- the deal puts a row with cards in it on its curve for the group's secret
  row_on : (i : ℕ) (row : List Fields) → AllByRecursion (Dealt keyed function passphrase m deal) row → AllByRecursion (λ c. c.group ≡ i) row → On (deal.card_value i) (shares_of_row row)
  row_on i [] all group = tt
  row_on i (c ∷ row) all group = (ap (λ g. deal.card_value g c.member) (sym group.0) ∙ sym all.0.value, row_on i row all.1 group.1)

  row_in : (i : ℕ) (row : List Fields) → 1 ≤ length row → AllByRecursion (Dealt keyed function passphrase m deal) row → AllByRecursion (λ c. c.group ≡ i) row
      → (i < deal.group_count) × (threshold_of row ≡ deal.member_threshold i)
  row_in i [] some all group = absurd (omega arith)
  row_in i (c ∷ row) some all group = (subst (λ g. g < deal.group_count) group.0 all.0.group, all.0.member_threshold ∙ ap deal.member_threshold group.0)

  pub dealt_row : (i : ℕ) → 1 ≤ length (row_of i cards)
      → (Curve keyed (threshold_of (row_of i cards)) (deal.group_secret i) (deal.card_value i)) × On (deal.card_value i) (shares_of_row (row_of i cards))
  dealt_row i some =
      let all = all_row (Dealt keyed function passphrase m deal) i cards dealt in
      let at = row_in i (row_of i cards) some all (row-group i cards) in
      (subst (λ t. Curve keyed t (deal.group_secret i) (deal.card_value i)) (sym at.1) (deal.member_curves i at.0), row_on i (row_of i cards) all (row-group i cards))

  pub row_fits : (i : ℕ) → 1 ≤ length (row_of i cards) → RowFits keyed cards i (deal.group_secret i)
  row_fits i some = let d = dealt_row i some in (deal.card_value i, d.0, d.1)

  -- a full row has no other secret
  pub full_row_secret : (i : ℕ) → is_full (row_of i cards) ≡ true → (secret : List ℕ) → RowFits keyed cards i secret → deal.group_secret i ≡ secret
  full_row_secret i full secret (value, c, on) =
      let d = dealt_row i (full_some (row_of i cards) full) in
      (laws.one_curve (threshold_of (row_of i cards)) (length m) (shares_of_row (row_of i cards))
      (row-shares cards together (length m) i (All-weaker (Dealt keyed function passphrase m deal) (λ c. length c.value ≡ length m) (λ c d. d.value_length) cards dealt))
      (subst (λ k. threshold_of (row_of i cards) ≤ k) (sym (length-map (row_of i cards) (λ c. record { x = c.member; value = c.value }))) (full_enough (row_of i cards) full))
      (deal.group_secret i) secret (deal.card_value i) value d.0 d.1 c on).0

  -- ---- the group level
  pub group-threshold : 1 ≤ length cards → group_threshold_of cards ≡ deal.group_threshold
  group-threshold = first cards dealt
    where
      first : (cs : List Fields) → AllByRecursion (Dealt keyed function passphrase m deal) cs → 1 ≤ length cs → group_threshold_of cs ≡ deal.group_threshold
      first [] all some = absurd (omega arith)
      first (c ∷ cs) all some = all.0.group_threshold

  abbrev secret_of_deal : List ℕ
  secret_of_deal = encrypted (under function passphrase deal.identifier deal.extendable deal.exponent) m

  pub dealt_group_curve : 1 ≤ length cards → Curve keyed (group_threshold_of cards) secret_of_deal deal.group_secret
  dealt_group_curve some = subst (λ t. Curve keyed t secret_of_deal deal.group_secret) (sym (group-threshold some)) deal.group_curve

  -- the full rows' secrets are the deal's group secrets
  pub secrets_on : (secrets : List Share) → RowSecrets keyed cards secrets → On deal.group_secret secrets
  secrets_on secrets is =
      all_join (λ s. is_full (row_of s.x cards) ≡ true) (λ s. RowFits keyed cards s.x s.value) (λ s. deal.group_secret s.x ≡ s.value)
      (λ s full fits. full_row_secret s.x full s.value fits) secrets
      (all_of_map (λ i. is_full (row_of i cards) ≡ true) (λ s. s.x) secrets (subst (AllByRecursion (λ i. is_full (row_of i cards) ≡ true)) (sym is.rows) (full_rows_full cards))) is.fit

  pub dealt_secrets_sound : (secrets : List Share) → RowSecrets keyed cards secrets → Shares (length secret_of_deal) secrets
  dealt_secrets_sound secrets is =
      secrets_sound keyed cards deal.group_threshold secret_of_deal deal.group_secret deal.group_curve secrets is.rows (secrets_on secrets is)
