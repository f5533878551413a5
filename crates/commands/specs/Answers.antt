-- The lines that answer commands, as bytes.
use Rattle.std.specs.Prelude.{ℕ, ◌+◌, ◌/◌, ◌%◌, cond, List, [], ◌∷◌, ◌++◌, codes, decimal, nat_lt}
use Rattle.reader.specs.Card.{Fields}
use Rattle.reader.specs.Writing.{text_of}
use Rattle.refusal.specs.declared.Refusal.{Refusal}
use Rattle.refusal.specs.Layers.{layer_name}
use Rattle.refusal.specs.Refusals.{number_of, layer_of, place_of}
use Rattle.refusal.specs.Sentences.{sentence_of}

-- a digit from 0 to f, in ASCII
abbrev pub hex_digit : ℕ → ℕ
hex_digit n = cond (nat_lt n 10) (48 + n) (87 + n)

-- two digits for each byte, the high one first
abbrev pub hex_of : List ℕ → List ℕ
hex_of [] = []
hex_of (b ∷ bs) = hex_digit (b / 16) ∷ (hex_digit (b % 16) ∷ hex_of bs)

-- the fields of a card are shown in the order in which it holds them
abbrev pub deal_part : ℕ → ℕ → ℕ → List ℕ
deal_part identifier flag exponent =
    codes "identifier=" ++ decimal identifier ++ codes " flag=" ++ decimal flag ++ codes " exponent=" ++ decimal exponent

abbrev pub group_part : ℕ → ℕ → ℕ → List ℕ
group_part group threshold count =
    codes "group=" ++ decimal group ++ codes " group_threshold=" ++ decimal threshold ++
    codes " group_count=" ++ decimal count

abbrev pub member_part : ℕ → ℕ → List ℕ
member_part member threshold = codes "member=" ++ decimal member ++ codes " member_threshold=" ++ decimal threshold

-- the line that shows a card, from its parts
abbrev pub card_text : List ℕ → List ℕ → List ℕ → List ℕ → List ℕ
card_text deal group member value =
    codes "card " ++ deal ++ codes " " ++ group ++ codes " " ++ member ++ codes " value=" ++ value

abbrev pub deal_fields : Fields → List ℕ
deal_fields f = deal_part f.identifier (cond f.extendable 1 0) f.exponent

abbrev pub group_fields : Fields → List ℕ
group_fields f = group_part f.group f.group_threshold f.group_count

abbrev pub member_fields : Fields → List ℕ
member_fields f = member_part f.member f.member_threshold

abbrev pub card_line : Fields → List ℕ
card_line f = card_text (deal_fields f) (group_fields f) (member_fields f) (hex_of f.value)

-- the line that shows the text of a card, in the words of the lexicon
abbrev pub text_line : List (List ℕ) → Fields → List ℕ
text_line words f = codes "text " ++ text_of words f

-- a refusal; its sentence for a person follows the colon, and nothing after it
abbrev pub refused_line : Refusal → List ℕ
refused_line refusal =
    codes "refused " ++ decimal (number_of refusal) ++ codes " " ++ layer_name (layer_of refusal) ++ codes " " ++
    decimal (place_of refusal) ++ codes ": " ++ sentence_of refusal
