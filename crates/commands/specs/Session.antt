-- The answer to each command, and the counts in the last line.
use Rattle.std.specs.Prelude.{◌≡◌, ℕ, ◌+◌, ◌-◌, ◌^◌, min, List, ◌++◌, Some, None, Ok, Err, string_bytes, codes, decimal, Option, Result, MatchOption, OnSome}
use Rattle.reader.specs.Card.{Fields}
use Rattle.reader.specs.Reading.{reading, checked_fields}
use Rattle.refusal.specs.declared.Refusal.{Refusal}
use Rattle.commands.specs.Answers.{card_line, text_line, refused_line}
use Rattle.commands.specs.Arguments.{separated, fields_from}
use Rattle.commands.specs.Commands.{Request, nothing, read_card, write_card, malformed, unknown}
use Rattle.commands.specs.declared.session.Answer.{Answer}
use Rattle.commands.specs.declared.session.Counts.{Counts}
use Rattle.commands.specs.declared.session.Outcome.{Outcome}
use Rattle.commands.specs.declared.session.Outcome.TheVariants.{Done, Refused, Error}

-- what a command gets that is refused
abbrev pub RefusedAnswer : Refusal → Answer → Type 0
RefusedAnswer refusal a = (a.outcome ≡ Refused) × (string_bytes a.text ≡ refused_line refusal)

-- what `read` answers to a card or a refusal
abbrev pub ReadAnswer : Result Fields Refusal → Answer → Type 0
ReadAnswer (Ok fields) a = (a.outcome ≡ Done) × (string_bytes a.text ≡ card_line fields)
ReadAnswer (Err refusal) a = RefusedAnswer refusal a

-- what a line that is no command gets
pub record ErrorAnswer (a : Answer) : Type 0 where
  pub outcome : a.outcome ≡ Error
  pub message : List ℕ
  pub whole : string_bytes a.text ≡ codes "error: " ++ message

-- what `write` answers to fields of a card or a refusal
abbrev pub WrittenAnswer : List (List ℕ) → Result Fields Refusal → Answer → Type 0
WrittenAnswer words (Ok fields) a = (a.outcome ≡ Done) × (string_bytes a.text ≡ text_line words fields)
WrittenAnswer words (Err refusal) a = RefusedAnswer refusal a

-- fields that are each in their range may still not be those of a card
abbrev pub WriteAnswer : List (List ℕ) → Option Fields → Answer → Type 0
WriteAnswer words None a = ErrorAnswer a
WriteAnswer words (Some fields) a = WrittenAnswer words (checked_fields fields) a

-- what a line gets, under the words of the lexicon
abbrev pub Responds : List (List ℕ) → Request → Option Answer → Type 0
Responds words nothing a = OnSome a (⊥)
Responds words (read_card line) a = MatchOption a ⊥ (ReadAnswer (reading words line))
Responds words (write_card arguments) a = MatchOption a ⊥ (WriteAnswer words (fields_from (separated arguments)))
Responds words (malformed v) a = MatchOption a ⊥ ErrorAnswer
Responds words unknown a = MatchOption a ⊥ ErrorAnswer

-- one more, or the largest number that a counter holds
abbrev pub more : ℕ → ℕ
more n = min (n + 1) (2 ^ 64 - 1)

-- the counts after a command that ended so
abbrev pub noted : Outcome → Counts → Counts
noted Done c = record { done = more c.done; refused = c.refused; errors = c.errors }
noted Refused c = record { done = c.done; refused = more c.refused; errors = c.errors }
noted Error c = record { done = c.done; refused = c.refused; errors = more c.errors }

-- the last line; refused commands are answered too, and errors are not
abbrev pub done_text : ℕ → ℕ → ℕ → List ℕ
done_text answered refused errors =
    codes "done: " ++ decimal answered ++ codes " commands answered, " ++ decimal refused ++ codes " of them refused, " ++
    decimal errors ++ codes " errors"

abbrev pub done_line : Counts → List ℕ
done_line c = done_text (min (c.done + c.refused) (2 ^ 64 - 1)) c.refused c.errors
