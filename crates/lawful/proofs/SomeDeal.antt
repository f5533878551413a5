-- Cards that hold an encrypted secret were all dealt by some lawful deal of what it decrypts to.
use Rattle.std.proofs.Common.{◌≡◌, ℕ, ◌+◌, ◌%◌, ◌<◌, ◌≤◌, Bool, true, cond, ◌&&◌, eqb, leb, ◌⊎◌, List, [], ◌∷◌, map, length, sym, refl, ap, ◌∙◌, subst, inl, inr, arith}
use lib.ListN.{length-map}
use Rattle.std.specs.List.{AllByRecursion}
use Rattle.std.proofs.ByRecursion.{All-weaker, All-map}
use Rattle.std.proofs.lemmas.Bool.{cond_both, cond-true, eq-eqb, le-leb, leb-true, and_from, cases_lt}
use Rattle.field.proofs.Lagrange.{In, here, of_in, all_in}
use Rattle.digest.specs.Keyed.{Bytes}
use Rattle.cipher.specs.Feistel.{under, decrypted, is_secret_length}
use Rattle.cipher.proofs.Inverse.{undone}
use Rattle.reader.specs.Card.{Fields}
use Rattle.reader.specs.Writing.{Lawful}
use Rattle.sharing.specs.Curves.{Share, Shares, Curve, On, OnCurve, CurveLaws}
use Rattle.lawful.specs.LawfulDeal.{LawfulDeal, Dealt, DealtBySome}
use Rattle.lawful.specs.Rows.{row_of, threshold_of, is_full, full_rows, shares_of_row, Met, Together}
use Rattle.lawful.specs.Opening.{RowFits, GroupCurve, Holds}
use Rattle.lawful.proofs.Lists.{all_of_map, all_join, some_in}
use Rattle.lawful.proofs.RowShares.{
  all_row,
  in_row,
  full_some,
  full_rows_full,
  full_rows_low,
  full_rows_in,
  row-shares,
  row_low,
  agree_of,
  lawful_of,
  threshold_is,
  threshold_range,
}
use Rattle.lawful.proofs.DealtRows.{curve_length, curve_bytes, secrets_enough}
use Rattle.lawful.proofs.SecretBytes.{length-network, bytes-decrypted}

-- ---- rows
-- the threshold that the deal gives a row: that of its cards, or 1 if it is empty
wanted : List Fields → ℕ
wanted [] = 1
wanted (c ∷ row) = c.member_threshold

wanted_some : (row : List Fields) → 1 ≤ length row → wanted row ≡ threshold_of row
unfolding wanted
wanted_some [] some = absurd (omega arith)
wanted_some (c ∷ row) some = refl

wanted_none : (row : List Fields) → length row ≤ 0 → wanted row ≡ 1
unfolding wanted
wanted_none [] none = refl
wanted_none (c ∷ row) none = absurd (omega arith)

on_none : (f : ℕ → List ℕ) (row : List Fields) → length row ≤ 0 → On f (shares_of_row row)
on_none f [] none = tt
on_none f (c ∷ row) none = absurd (omega arith)

-- the number of members that goes with a threshold
abbrev count_for : ℕ → ℕ
count_for t = cond (leb t 1) 1 16

-- a card's value is the value at its member number
value_on : (f : ℕ → List ℕ) (row : List Fields) (c : Fields) → In c row → On f (shares_of_row row) → c.value ≡ f c.member
value_on f row c n on = of_in (λ c. c.value ≡ f c.member) c row (All-weaker _ (λ c. c.value ≡ f c.member) (λ c e. sym e) row (all_of_map (λ s. f s.x ≡ s.value) (λ c. record { x = c.member; value = c.value }) row on)) n

secret_length : (n : ℕ) → n % 2 ≡ 0 → 16 ≤ n → n ≤ 64 → is_secret_length n ≡ true
secret_length n even least most = and_from (eqb (n % 2) 0) (leb 16 n && leb n 64) (eq-eqb (n % 2) 0 even) (and_from (leb 16 n) (leb n 64) (le-leb 16 n least) (le-leb n 64 most))

module _ (keyed : List ℕ → List ℕ → List ℕ) (laws : CurveLaws keyed) (function : ℕ → List ℕ → ℕ → Bool → ℕ → List ℕ → List ℕ)
    (function-bytes : (number : ℕ) (phrase : List ℕ) (id : ℕ) (flag : Bool) (e : ℕ) (part : List ℕ) → number < 4 → id < 32768 → e < 16 → Bytes phrase → Bytes part
    → Bytes (function number phrase id flag e part))
    (passphrase : List ℕ) (phrase-bytes : Bytes passphrase) (card : Fields) (more : List Fields) (together : Together (card ∷ more)) (met : Met (card ∷ more))
    (e : List ℕ) (holds : Holds keyed (card ∷ more) e) where
  abbrev cards : List Fields
  cards = card ∷ more

  abbrev n : ℕ
  n = length card.value

  abbrev group_secret : ℕ → List ℕ
  group_secret = holds.group_secret

  sized : AllByRecursion (λ c. length c.value ≡ n) cards
  sized = all_in (λ c. length c.value ≡ n) cards (λ c m. (agree_of cards together c card m here).value_length)

  lawful : Lawful card
  lawful = together.lawful.0

  -- ---- lengths
  -- a row's secret is as long as the cards' values
  fits-length : (i : ℕ) → 1 ≤ length (row_of i cards) → (secret : List ℕ) → RowFits keyed cards i secret → length secret ≡ n
  fits-length i some secret (value, c, on) =
      first (row_of i cards) some (all_row (λ c. c.member < 16) i cards (All-weaker Lawful (λ c. c.member < 16) (λ c l. l.member) cards together.lawful))
      (all_row (λ c. length c.value ≡ n) i cards sized) on
    where
      first : (row : List Fields) → 1 ≤ length row → AllByRecursion (λ c. c.member < 16) row → AllByRecursion (λ c. length c.value ≡ n) row → On value (shares_of_row row) → length secret ≡ n
      first [] some low long on = absurd (omega arith)
      first (d ∷ row) some low long on =
          let l = low.0 in
          sym (curve_length keyed (threshold_of (row_of i cards)) secret value c d.member (omega arith)) ∙ ap length on.0 ∙ long.0

  abbrev group : GroupCurve keyed cards e group_secret
  group = holds.group_curve

  secrets_full : AllByRecursion (λ s. (s.x < 16) × (is_full (row_of s.x cards) ≡ true)) group.secrets
  secrets_full =
      all_of_map (λ i. (i < 16) × (is_full (row_of i cards) ≡ true)) (λ s. s.x) group.secrets
      (subst (AllByRecursion (λ i. (i < 16) × (is_full (row_of i cards) ≡ true))) (sym group.row_secrets.rows)
      (all_join (λ i. i < 16) (λ i. is_full (row_of i cards) ≡ true) _ (λ i l f. (l, f)) (full_rows cards) (full_rows_low cards) (full_rows_full cards)))

  length-e : length e ≡ n
  length-e = first group.secrets enough secrets_full group.row_secrets.fit group.through
    where
      enough : 1 ≤ length group.secrets
      enough = let a = secrets_enough keyed cards group.secrets group.row_secrets.rows met.1 in let b = lawful.group_threshold_least in omega arith

      first : (secrets : List Share) → 1 ≤ length secrets → AllByRecursion (λ s. (s.x < 16) × (is_full (row_of s.x cards) ≡ true)) secrets
          → AllByRecursion (λ s. RowFits keyed cards s.x s.value) secrets → On group_secret secrets → length e ≡ n
      first [] some full fit on = absurd (omega arith)
      first (s ∷ secrets) some full fit on =
          let l = full.0.0 in
          sym (curve_length keyed card.group_threshold e group_secret group.curve s.x (omega arith))
          ∙ ap length on.0 ∙ fits-length s.x (full_some (row_of s.x cards) full.0.1) s.value fit.0

  group-secret-length : (i : ℕ) → i < 16 → length (group_secret i) ≡ n
  group-secret-length i h = curve_length keyed card.group_threshold e group_secret group.curve i (omega arith) ∙ length-e

  group-secret-bytes : (i : ℕ) → i < 16 → Bytes (group_secret i)
  group-secret-bytes i h = curve_bytes keyed card.group_threshold e group_secret group.curve i (omega arith)

  -- ---- each row fits its group secret
  full_fits : (i : ℕ) → i < 16 → is_full (row_of i cards) ≡ true → RowFits keyed cards i (group_secret i)
  full_fits i h full =
      of_in (λ i. RowFits keyed cards i (group_secret i)) i (map (λ s. s.x) group.secrets)
      (All-map (λ i. RowFits keyed cards i (group_secret i)) (λ s. s.x) group.secrets
      (all_join (λ s. RowFits keyed cards s.x s.value) (λ s. group_secret s.x ≡ s.value) (λ s. RowFits keyed cards s.x (group_secret s.x))
      (λ s f o. subst (RowFits keyed cards s.x) (sym o) f) group.secrets group.row_secrets.fit group.through))
      (subst (In i) (sym group.row_secrets.rows) (full_rows_in i cards h full))

  abbrev Fits : ℕ → Type 0
  Fits i = OnCurve keyed (wanted (row_of i cards)) (group_secret i) (shares_of_row (row_of i cards))

  -- no card lies in the row
  empty_fits : (i : ℕ) → i < 16 → length (row_of i cards) ≤ 0 → Fits i
  empty_fits i h none =
      let one : wanted (row_of i cards) ≡ 1 = wanted_none (row_of i cards) none in (
        λ x. group_secret i,
        record {
          least = omega arith;
          bytes = group-secret-bytes i h;
          constant = λ _ x l. refl;
          polynomials = λ two. absurd (omega arith);
          at255 = λ two. absurd (omega arith);
          at254 = λ two. absurd (omega arith);
        },
        on_none (λ x. group_secret i) (row_of i cards) none,
      )

  -- too few cards lie in it to say anything
  few-fits : (i : ℕ) → i < 16 → length (row_of i cards) + 2 ≤ threshold_of (row_of i cards) → RowFits keyed cards i (group_secret i)
  few-fits i h few =
      let l = group-secret-length i h in
      let long = lawful.value_least in
      let k : length (shares_of_row (row_of i cards)) ≡ length (row_of i cards) = length-map (row_of i cards) (λ c. record { x = c.member; value = c.value }) in
      laws.some_curve (threshold_of (row_of i cards)) (group_secret i) (shares_of_row (row_of i cards)) (group-secret-bytes i h) (omega arith)
      (subst (λ k. Shares k (shares_of_row (row_of i cards))) (sym l) (row-shares cards together n i sized))
      (All-weaker (λ s. s.x < 16) (λ s. s.x < 254) (λ s l. omega arith) (shares_of_row (row_of i cards)) (row_low cards together i)) (omega arith)

  some_fits : (i : ℕ) → i < 16 → 1 ≤ length (row_of i cards) → RowFits keyed cards i (group_secret i)
  some_fits i h some = at (cases_lt (length (row_of i cards)) (threshold_of (row_of i cards)))
    where
      near : length (row_of i cards) < threshold_of (row_of i cards) → (length (row_of i cards) + 1 < threshold_of (row_of i cards)) ⊎ (threshold_of (row_of i cards) ≤ length (row_of i cards) + 1)
          → RowFits keyed cards i (group_secret i)
      near l (inl k) = few-fits i h (omega arith)
      near l (inr k) =
          holds.near_rows i h (and_from (leb 1 (length (row_of i cards))) (eqb (length (row_of i cards) + 1) (threshold_of (row_of i cards))) (le-leb 1 (length (row_of i cards)) some)
          (eq-eqb (length (row_of i cards) + 1) (threshold_of (row_of i cards)) (omega arith)))

      at : (length (row_of i cards) < threshold_of (row_of i cards)) ⊎ (threshold_of (row_of i cards) ≤ length (row_of i cards)) → RowFits keyed cards i (group_secret i)
      at (inl l) = near l (cases_lt (length (row_of i cards) + 1) (threshold_of (row_of i cards)))
      at (inr l) =
          full_fits i h (and_from (leb 1 (length (row_of i cards))) (leb (threshold_of (row_of i cards)) (length (row_of i cards))) (le-leb 1 (length (row_of i cards)) some)
          (le-leb (threshold_of (row_of i cards)) (length (row_of i cards)) l))

  row-curve : (i : ℕ) → i < 16 → Fits i
  row-curve i h = at (cases_lt 0 (length (row_of i cards)))
    where
      at : (0 < length (row_of i cards)) ⊎ (length (row_of i cards) ≤ 0) → Fits i
      at (inl some) =
          subst (λ t. OnCurve keyed t (group_secret i) (shares_of_row (row_of i cards))) (sym (wanted_some (row_of i cards) (omega arith))) (some_fits i h (omega arith))
      at (inr none) = empty_fits i h none

  wanted_range : (i : ℕ) → (1 ≤ wanted (row_of i cards)) × (wanted (row_of i cards) ≤ 16)
  wanted_range i = at (cases_lt 0 (length (row_of i cards)))
    where
      at : (0 < length (row_of i cards)) ⊎ (length (row_of i cards) ≤ 0) → (1 ≤ wanted (row_of i cards)) × (wanted (row_of i cards) ≤ 16)
      at (inl some) =
          subst (λ t. (1 ≤ t) × (t ≤ 16)) (sym (wanted_some (row_of i cards) (omega arith))) (threshold_range cards together i (omega arith))
      at (inr none) = let one : wanted (row_of i cards) ≡ 1 = wanted_none (row_of i cards) none in (omega arith, omega arith)

  -- ---- the deal
  pick : (i : ℕ) → (i < 16) ⊎ (16 ≤ i) → ℕ → List ℕ
  pick i (inl h) = (row-curve i h).0
  pick i (inr h) = group_secret

  picked : (i : ℕ) (k : (i < 16) ⊎ (16 ≤ i)) → i < 16
      → (Curve keyed (wanted (row_of i cards)) (group_secret i) (pick i k)) × On (pick i k) (shares_of_row (row_of i cards))
  unfolding pick
  picked i (inl h) l = ((row-curve i h).1, (row-curve i h).2)
  picked i (inr h) l = absurd (omega arith)

  abbrev F : ℕ → List ℕ → List ℕ
  F = under function passphrase card.identifier card.extendable card.exponent

  length-m : length (decrypted F e) ≡ n
  length-m = length-network F 3 2 1 0 e ∙ length-e

  fits-n : is_secret_length n ≡ true
  fits-n = secret_length n lawful.value_even lawful.value_least lawful.value_most

  the-deal : LawfulDeal keyed function passphrase (decrypted F e)
  the-deal =
      let few : card.group_count ≤ 16 = lawful.group_count in
      record {
        identifier = card.identifier;
        identifier_fits = lawful.identifier;
        extendable = card.extendable;
        exponent = card.exponent;
        exponent_fits = lawful.exponent;
        bytes = bytes-decrypted function function-bytes passphrase card.identifier card.extendable card.exponent phrase-bytes lawful.identifier lawful.exponent e group.curve.bytes;
        length_fits = subst (λ k. is_secret_length k ≡ true) (sym length-m) fits-n;
        group_threshold = card.group_threshold;
        group_count = card.group_count;
        some_groups = lawful.group_threshold_least;
        enough_groups = lawful.group_threshold_most;
        few_groups = few;
        member_threshold = λ i. wanted (row_of i cards);
        member_count = λ i. count_for (wanted (row_of i cards));
        some_members = λ i _. (wanted_range i).0;
        enough_members = λ i _. cond_both (leb (wanted (row_of i cards)) 1) 1 16 (λ k. wanted (row_of i cards) ≤ k) (λ t. leb-true (wanted (row_of i cards)) 1 t) (λ _. (wanted_range i).1);
        few_members = λ i _. cond_both (leb (wanted (row_of i cards)) 1) 1 16 (λ k. k ≤ 16) (λ _. omega arith) (λ _. omega arith);
        alone = λ i _ one. cond-true (leb (wanted (row_of i cards)) 1) 1 16 (le-leb (wanted (row_of i cards)) 1 (omega arith));
        group_secret = group_secret;
        group_curve = subst (λ s. Curve keyed card.group_threshold s group_secret) (sym ((undone F).encrypt_decrypted e (subst (λ k. is_secret_length k ≡ true) (sym length-e) fits-n))) group.curve;
        card_value = λ i. pick i (cases_lt i 16);
        member_curves = λ i h. (picked i (cases_lt i 16) (omega arith)).0;
      }

  the-deal-dealt : (c : Fields) → In c cards → Dealt keyed function passphrase (decrypted F e) the-deal c
  unfolding the-deal
  the-deal-dealt c m =
      let same = agree_of cards together c card m here in
      let l = lawful_of cards together c m in
      let in16 : c.group < 16 = let a = l.group in let b = l.group_count in omega arith in
      let lies = in_row c.group c cards m refl in
      let t : wanted (row_of c.group cards) ≡ c.member_threshold = wanted_some (row_of c.group cards) (some_in (row_of c.group cards) c lies) ∙ threshold_is cards together c m in
      record {
        identifier = same.identifier;
        extendable = same.extendable;
        exponent = same.exponent;
        value_length = same.value_length ∙ sym length-m;
        group_threshold = same.group_threshold;
        group_count = same.group_count;
        group = subst (λ g. c.group < g) same.group_count l.group;
        member_threshold = sym t;
        member = cond_both (leb (wanted (row_of c.group cards)) 1) 1 16 (λ k. c.member < k)
            (λ b. let low = leb-true (wanted (row_of c.group cards)) 1 b in let least = l.member_threshold_least in omega (arith, l.alone (omega arith))) (λ _. l.member);
        value = value_on (pick c.group (cases_lt c.group 16)) (row_of c.group cards) c lies (picked c.group (cases_lt c.group 16) in16).1;
      }

  pub some_deal : DealtBySome keyed function passphrase (decrypted F e) cards
  some_deal = (the-deal, all_in (Dealt keyed function passphrase (decrypted F e) the-deal) cards the-deal-dealt)
