-- Cards that meet the thresholds show one encrypted secret or one fault, and not both.
use Rattle.std.proofs.Common.{◌≡◌, ℕ, ◌<◌, ◌≤◌, true, List, [], ◌∷◌, map, length, Some, Option, sym, refl, ap, ◌∙◌, subst, ap₂, inl, inr, arith}
use lib.ListN.{length-map}
use Rattle.std.specs.List.{AllByRecursion}
use Rattle.std.proofs.ByRecursion.{All-map, All-weaker}
use Rattle.std.proofs.lemmas.Bool.{cases_order}
use Rattle.field.proofs.Lagrange.{In, here, of_in, all_in}
use Rattle.reader.specs.Card.{Fields}
use Rattle.sharing.specs.Curves.{Share, On, OnCurve, CurveLaws}
use Rattle.lawful.specs.Rows.{row_of, threshold_of, is_full, full_rows, group_threshold_of, shares_of_row, Met, Agree, Together}
use Rattle.lawful.specs.Opening.{RowFits, RowSecrets, GroupCurve, NearRowFits, Holds, Fault, row_off, groups_off, near_row_off}
use Rattle.lawful.proofs.Lists.{all_of_map}
use Rattle.lawful.proofs.RowShares.{full_enough, full_rows_full, full_rows_in, row-shares, agree_of}
use Rattle.lawful.proofs.DealtRows.{secrets_sound, secrets_enough}

-- the lower of two is not the higher's fault
same_number : (i j : ℕ) → (i < j → ⊥) → (j < i → ⊥) → i ≡ j
same_number i j a b = elim (cases_order i j) [ inl e ↦ e | inr (inl l) ↦ absurd (a l) | inr (inr l) ↦ absurd (b l) ]

module _ (keyed : List ℕ → List ℕ → List ℕ) (laws : CurveLaws keyed) (cards : List Fields) (together : Together cards) (met : Met cards) where
  -- the values of all cards have one length
  sized : (n : ℕ) × AllByRecursion (λ c. length c.value ≡ n) cards
  sized = first cards met.0 (agree_of cards together)
    where
      first : (cs : List Fields) → 1 ≤ length cs → ((a b : Fields) → In a cs → In b cs → Agree a b) → (n : ℕ) × AllByRecursion (λ c. length c.value ≡ n) cs
      first [] some agree = absurd (omega arith)
      first (c ∷ cs) some agree = (length c.value, all_in (λ d. length d.value ≡ length c.value) (c ∷ cs) (λ d m. (agree d c m here).value_length))

  -- a full row has one secret
  row-secret : (i : ℕ) → is_full (row_of i cards) ≡ true → (a b : List ℕ) → RowFits keyed cards i a → RowFits keyed cards i b → a ≡ b
  row-secret i full a b (value, c, on) (other, d, on') =
      (laws.one_curve (threshold_of (row_of i cards)) sized.0 (shares_of_row (row_of i cards)) (row-shares cards together sized.0 i sized.1)
      (subst (λ k. threshold_of (row_of i cards) ≤ k) (sym (length-map (row_of i cards) (λ c. record { x = c.member; value = c.value }))) (full_enough (row_of i cards) full))
      a b value other c on d on').0

  -- what holds of every full row's secret, at the row's number
  at_row : (P : ℕ → Type 0) (secrets : List Share) → map (λ s. s.x) secrets ≡ full_rows cards → AllByRecursion (λ s. P s.x) secrets → (i : ℕ) → i < 16 → is_full (row_of i cards) ≡ true → P i
  at_row P secrets rows all i h full =
      of_in P i (map (λ s. s.x) secrets) (All-map P (λ s. s.x) secrets all) (subst (In i) (sym rows) (full_rows_in i cards h full))

  row-fits-some : (secrets : List Share) → RowSecrets keyed cards secrets → (i : ℕ) → i < 16 → is_full (row_of i cards) ≡ true → (secret : List ℕ) × RowFits keyed cards i secret
  row-fits-some secrets is =
      at_row (λ i. (secret : List ℕ) × RowFits keyed cards i secret) secrets is.rows
      (All-weaker (λ s. RowFits keyed cards s.x s.value) (λ s. (secret : List ℕ) × RowFits keyed cards s.x secret) (λ s f. (s.value, f)) secrets is.fit)

  same_secrets : (a b : List Share) → RowSecrets keyed cards a → RowSecrets keyed cards b → a ≡ b
  same_secrets a b p q =
      each a b (p.rows ∙ sym q.rows) (all_of_map (λ i. is_full (row_of i cards) ≡ true) (λ s. s.x) a (subst (AllByRecursion (λ i. is_full (row_of i cards) ≡ true)) (sym p.rows) (full_rows_full cards)))
      p.fit q.fit
    where
      each : (a b : List Share) → map (λ s. s.x) a ≡ map (λ s. s.x) b → AllByRecursion (λ s. is_full (row_of s.x cards) ≡ true) a
          → AllByRecursion (λ s. RowFits keyed cards s.x s.value) a → AllByRecursion (λ s. RowFits keyed cards s.x s.value) b → a ≡ b
      each [] [] e full p q = refl
      each [] (t ∷ b) e full p q = absurd (let z = ap length e in omega arith)
      each (s ∷ a) [] e full p q = absurd (let z = ap length e in omega arith)
      each (s ∷ a) (t ∷ b) e full p q =
          let x : s.x ≡ t.x = cc in
          let rest : map (λ s. s.x) a ≡ map (λ s. s.x) b = cc in
          let v : s.value ≡ t.value = row-secret s.x full.0 s.value t.value p.0 (subst (λ i. RowFits keyed cards i t.value) (sym x) q.0) in
          ap₂ (λ s l. s ∷ l) (ap₂ (λ x value. record { x = x; value = value }) x v) (each a b rest full.1 p.1 q.1)

  -- the full rows' secrets lie on one curve
  one-group-curve : (e f : List ℕ) (group_secret other : ℕ → List ℕ) → GroupCurve keyed cards e group_secret → GroupCurve keyed cards f other
      → (e ≡ f) × ((i : ℕ) → i < 256 → group_secret i ≡ other i)
  one-group-curve e f group_secret other p q =
      laws.one_curve (group_threshold_of cards) (length e) p.secrets
      (secrets_sound keyed cards (group_threshold_of cards) e group_secret p.curve p.secrets p.row_secrets.rows p.through)
      (secrets_enough keyed cards p.secrets p.row_secrets.rows met.1) e f group_secret other p.curve p.through q.curve
      (subst (On other) (same_secrets q.secrets p.secrets q.row_secrets p.row_secrets) q.through)

  pub one_held : (e f : List ℕ) → Holds keyed cards e → Holds keyed cards f → e ≡ f
  one_held e f p q = (one-group-curve e f p.group_secret q.group_secret p.group_curve q.group_curve).0

  group-fits : (secrets : List Share) → RowSecrets keyed cards secrets → (e : List ℕ) (group_secret : ℕ → List ℕ) → GroupCurve keyed cards e group_secret
      → OnCurve keyed (group_threshold_of cards) e secrets
  group-fits secrets is e group_secret p = (group_secret, p.curve, subst (On group_secret) (same_secrets p.secrets secrets p.row_secrets is) p.through)

  -- what fits one curve through the secrets fits the other
  near_fits : (e f : List ℕ) (group_secret other : ℕ → List ℕ) → GroupCurve keyed cards e group_secret → GroupCurve keyed cards f other
      → (i : ℕ) → i < 16 → NearRowFits keyed cards group_secret i → NearRowFits keyed cards other i
  near_fits e f group_secret other p q i h fits lacks = subst (RowFits keyed cards i) ((one-group-curve e f group_secret other p q).1 i (omega arith)) (fits lacks)

  pub not_both : (e : List ℕ) → Holds keyed cards e → (row : Option ℕ) → Fault keyed cards row → ⊥
  not_both e p _ (row_off i h full off before) = let r = row-fits-some p.group_curve.secrets p.group_curve.row_secrets i h full in off r.0 r.1
  not_both e p _ (groups_off secrets is off) = off e (group-fits secrets is e p.group_secret p.group_curve)
  not_both e p _ (near_row_off i h f other q lacks off before) = off (near_fits e f p.group_secret other p.group_curve q i h (p.near_rows i h) lacks)

  pub one_fault : (row other : Option ℕ) → Fault keyed cards row → Fault keyed cards other → row ≡ other
  one_fault _ _ (row_off i h full off before) (row_off j k full' off' before') =
      ap Some (same_number i j (λ l. let r = before' i l full in off r.0 r.1) (λ l. let r = before j l full' in off' r.0 r.1))
  one_fault _ _ (row_off i h full off before) (groups_off secrets is off') = let r = row-fits-some secrets is i h full in absurd (off r.0 r.1)
  one_fault _ _ (row_off i h full off before) (near_row_off j k e f p lacks off' before') = let r = row-fits-some p.secrets p.row_secrets i h full in absurd (off r.0 r.1)
  one_fault _ _ (groups_off secrets is off) (row_off j k full off' before') = let r = row-fits-some secrets is j k full in absurd (off' r.0 r.1)
  one_fault _ _ (groups_off secrets is off) (groups_off secrets' is' off') = refl
  one_fault _ _ (groups_off secrets is off) (near_row_off j k e f p lacks off' before') = absurd (off e (group-fits secrets is e f p))
  one_fault _ _ (near_row_off i h e f p lacks off before) (row_off j k full off' before') = let r = row-fits-some p.secrets p.row_secrets j k full in absurd (off' r.0 r.1)
  one_fault _ _ (near_row_off i h e f p lacks off before) (groups_off secrets is off') = absurd (off' e (group-fits secrets is e f p))
  one_fault _ _ (near_row_off i h e f p lacks off before) (near_row_off j k e' f' q lacks' off' before') =
      ap Some (same_number i j (λ l. off (near_fits e' e f' f q p i h (before' i l) lacks)) (λ l. off' (near_fits e e' f f' p q j k (before j l) lacks')))
