-- Cards that a lawful deal dealt can be written, and can lie in one tray.
use Rattle.std.proofs.Common.{◌≡◌, ℕ, ◌+◌, ◌*◌, ◌%◌, ◌<◌, ◌≤◌, Bool, true, ◌&&◌, eqb, leb, List, map, length, sym, ap, ◌∙◌, subst, ap₂, arith}
use Rattle.std.specs.List.{AllByRecursion}
use Rattle.std.specs.Int.Digits.{AllBelowBase}
use Rattle.std.proofs.ByRecursion.{All-weaker}
use Rattle.std.proofs.lemmas.Bool.{eqb-true, leb-true, and_parts}
use Rattle.field.specs.Interpolation.{Distinct}
use Rattle.cipher.specs.Feistel.{is_secret_length}
use Rattle.reader.specs.Card.{Fields}
use Rattle.reader.specs.Writing.{Lawful}
use Rattle.lawful.specs.LawfulDeal.{LawfulDeal, Dealt}
use Rattle.lawful.specs.Rows.{Agree, Together}
use Rattle.lawful.proofs.Lists.{under-bytes}
use Rattle.lawful.proofs.DealtRows.{curve_bytes}

pub secret_range : (n : ℕ) → is_secret_length n ≡ true → (n % 2 ≡ 0) × (16 ≤ n) × (n ≤ 64)
secret_range n t =
    let a = and_parts (eqb (n % 2) 0) (leb 16 n && leb n 64) t in
    let b = and_parts (leb 16 n) (leb n 64) a.1 in
    (eqb-true (n % 2) 0 a.0, leb-true 16 n b.0, leb-true n 64 b.1)

module _ (keyed : List ℕ → List ℕ → List ℕ) (function : ℕ → List ℕ → ℕ → Bool → ℕ → List ℕ → List ℕ)
    (passphrase m : List ℕ) (deal : LawfulDeal keyed function passphrase m) where
  abbrev DealtCard : Fields → Type 0
  DealtCard = Dealt keyed function passphrase m deal

  pub dealt_lawful : (card : Fields) → DealtCard card → Lawful card
  dealt_lawful card d =
      let n = secret_range (length m) deal.length_fits in
      let long : length card.value ≡ length m = d.value_length in
      let few = deal.few_members card.group d.group in
      let enough = deal.enough_members card.group d.group in
      let least = deal.some_members card.group d.group in
      let low = d.member in
      record {
        identifier = subst (λ k. k < 32768) (sym d.identifier) deal.identifier_fits;
        exponent = subst (λ k. k < 16) (sym d.exponent) deal.exponent_fits;
        group = subst (λ g. card.group < g) (sym d.group_count) d.group;
        group_threshold_least = subst (λ t. 1 ≤ t) (sym d.group_threshold) deal.some_groups;
        group_threshold_most = subst (λ t. t ≤ card.group_count) (sym d.group_threshold) (subst (λ g. deal.group_threshold ≤ g) (sym d.group_count) deal.enough_groups);
        group_count = subst (λ g. g ≤ 16) (sym d.group_count) deal.few_groups;
        member = omega arith;
        member_threshold_least = subst (λ t. 1 ≤ t) (sym d.member_threshold) least;
        member_threshold_most = subst (λ t. t ≤ 16) (sym d.member_threshold) (omega arith);
        alone = λ one. let c = deal.alone card.group d.group (sym d.member_threshold ∙ one) in omega arith;
        value_least = subst (λ k. 16 ≤ k) (sym long) n.1;
        value_most = subst (λ k. k ≤ 64) (sym long) n.2;
        value_even = ap (λ k. k % 2) long ∙ n.0;
        value_bytes = under-bytes card.value (subst (λ v. AllBelowBase 256 v) (sym d.value)
            (under-bytes _ (curve_bytes keyed (deal.member_threshold card.group) (deal.group_secret card.group) (deal.card_value card.group) (deal.member_curves card.group d.group) card.member (omega arith))));
      }

  pub dealt_agree : (a b : Fields) → DealtCard a → DealtCard b → Agree a b
  dealt_agree a b p q =
      record {
        identifier = p.identifier ∙ sym q.identifier;
        extendable = p.extendable ∙ sym q.extendable;
        exponent = p.exponent ∙ sym q.exponent;
        group_threshold = p.group_threshold ∙ sym q.group_threshold;
        group_count = p.group_count ∙ sym q.group_count;
        value_length = p.value_length ∙ sym q.value_length;
        member_threshold = λ e. p.member_threshold ∙ ap deal.member_threshold e ∙ sym q.member_threshold;
      }

  pub dealt_together : (cards : List Fields) → AllByRecursion DealtCard cards → Distinct (map (λ c. 16 * c.group + c.member) cards) → Together cards
  dealt_together cards all apart =
      record {
        lawful = All-weaker DealtCard Lawful dealt_lawful cards all;
        places = apart;
        agree = All-weaker DealtCard (λ a. AllByRecursion (Agree a) cards) (λ a p. All-weaker DealtCard (Agree a) (λ b q. dealt_agree a b p q) cards all) cards all;
      }

  pub dealt_once : (a b : Fields) → DealtCard a → DealtCard b → a.group ≡ b.group → a.member ≡ b.member → a.value ≡ b.value
  dealt_once a b p q g k = p.value ∙ ap₂ deal.card_value g k ∙ sym q.value
