-- A card's fields are in their ranges.
use Rattle.std.proofs.Common.{◌<◌}
use Rattle.std.proofs.ByRecursion.{All-from_get_or}
use Rattle.reader.specs.declared.card.Card.{Card}
use Rattle.reader.specs.Card.{fields_of}
use Rattle.reader.specs.Writing.{Lawful}

pub card_lawful : (c : Card) → Lawful (fields_of c)
card_lawful c =
    let parts = c.parts in
    let v = parts.value in
    record {
      identifier = parts.identifier.bound;
      exponent = parts.exponent.bound;
      group = c.exists;
      group_threshold_least = parts.group_threshold.least;
      group_threshold_most = c.enough;
      group_count = parts.group_count.most;
      member = parts.member.bound;
      member_threshold_least = parts.member_threshold.least;
      member_threshold_most = parts.member_threshold.most;
      alone = c.alone;
      value_least = v.least;
      value_most = v.most;
      value_even = v.even;
      value_bytes = All-from_get_or (λ d. d < 256) v.bytes 0 (λ i h. v.small i);
    }
