-- What the checks of a card's fields come to.
use Rattle.std.proofs.Common.{◌≡◌, ◌<◌, ◌≤◌, Bool, true, false, ◌⊎◌, Ok, Err, Result, ◌∙◌, inl, inr}
use Rattle.std.proofs.lemmas.Bool.{le-leb, lt-ltb, and_from, or_left, or_right, ne_eqb, eq-eqb, not_from_false, cond-true, cond-false}
use Rattle.refusal.specs.declared.Refusal.{Refusal}
use Rattle.refusal.specs.declared.Refusal.TheVariants.{GroupNumbers, MemberAtThresholdOne}
use Rattle.reader.specs.Card.{Fields}
use Rattle.reader.specs.Reading.{require, groups_fit, member_fits, checked_fields}

pub same_fields : (a b : Fields) → a.identifier ≡ b.identifier → a.extendable ≡ b.extendable → a.exponent ≡ b.exponent → a.group ≡ b.group
    → a.group_threshold ≡ b.group_threshold → a.group_count ≡ b.group_count → a.member ≡ b.member → a.member_threshold ≡ b.member_threshold
    → a.value ≡ b.value → a ≡ b
same_fields a b e1 e2 e3 e4 e5 e6 e7 e8 e9 =
    λ i. record {
      identifier = e1 i;
      extendable = e2 i;
      exponent = e3 i;
      group = e4 i;
      group_threshold = e5 i;
      group_count = e6 i;
      member = e7 i;
      member_threshold = e8 i;
      value = e9 i;
    }

pub passed : {A : Type 0} (b : Bool) (refusal : Refusal) (rest : Result A Refusal) → b ≡ true → require b refusal rest ≡ rest
passed b refusal rest e = cond-true b rest (Err refusal) e

pub refused : {A : Type 0} (b : Bool) (refusal : Refusal) (rest : Result A Refusal) → b ≡ false → require b refusal rest ≡ Err refusal
refused b refusal rest e = cond-false b rest (Err refusal) e

pub all-passed : (f : Fields) → f.group_threshold ≤ f.group_count → f.group < f.group_count → ((f.member_threshold ≡ 1 → ⊥) ⊎ (f.member ≡ 0)) → checked_fields f ≡ Ok f
all-passed f enough exists alone =
    passed (groups_fit f) GroupNumbers _ (and_from _ _ (le-leb f.group_threshold f.group_count enough) (lt-ltb f.group f.group_count exists))
    ∙ passed (member_fits f) MemberAtThresholdOne (Ok f) (by alone)
  where
    by : ((f.member_threshold ≡ 1 → ⊥) ⊎ (f.member ≡ 0)) → member_fits f ≡ true
    by (inl n) = or_left _ _ (not_from_false _ (ne_eqb f.member_threshold 1 n))
    by (inr e) = or_right _ _ (eq-eqb f.member 0 e)
