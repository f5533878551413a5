-- The fields of a card, as numbers and bytes.
use Rattle.std.specs.Prelude.{ℕ, Bool, List}
use Rattle.reader.specs.declared.card.Card.{Card}
use Rattle.reader.specs.declared.card_parts.CardParts.{CardParts}

pub record Fields : Type 0 where
  pub identifier : ℕ
  pub extendable : Bool
  pub exponent : ℕ
  pub group : ℕ
  pub group_threshold : ℕ
  pub group_count : ℕ
  pub member : ℕ
  pub member_threshold : ℕ
  pub value : List ℕ

abbrev pub parts_of : CardParts → Fields
parts_of c =
    record {
      identifier = c.identifier.value;
      extendable = c.extendable;
      exponent = c.exponent.value;
      group = c.group.value;
      group_threshold = c.group_threshold.value;
      group_count = c.group_count.value;
      member = c.member.value;
      member_threshold = c.member_threshold.value;
      value = c.value.bytes;
    }

abbrev pub fields_of : Card → Fields
fields_of c = parts_of c.parts
