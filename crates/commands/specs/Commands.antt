-- What a line of the input asks for.
use Rattle.std.specs.Prelude.{ℕ, Bool, false, cond, ◌||◌, List, [], ◌∷◌, Some, None, codes, Option, ◌==◌}
use Rattle.std.specs.List.{list_all}
use Rattle.std.specs.Str.{bytes_eq}
use Rattle.commands.specs.Lines.{name_of, rest_of}
use Rattle.commands.specs.declared.command.Verb.{Verb}
use Rattle.commands.specs.declared.command.Verb.TheVariants as verb
use Rattle.commands.specs.declared.command.Command.{Command}
use Rattle.commands.specs.declared.command.Command.TheVariants as command

-- what a command asks for, with its arguments as bytes
pub data Request : Type 0 where
  nothing : Request
  read_card : List ℕ → Request
  write_card : List ℕ → Request
  malformed : Verb → Request
  unknown : Request

-- what the code's commands mean
abbrev pub meaning : Command → Request
meaning command.Nothing = nothing
meaning (command.Read line) = read_card line.now
meaning (command.Write arguments) = write_card arguments.now
meaning (command.Malformed v) = malformed v
meaning command.Unknown = unknown

-- nothing but spaces and tabs
abbrev pub is_blank : List ℕ → Bool
is_blank line = list_all (λ b. b == 32 || b == 9) line

-- the first byte is #
abbrev pub is_comment : List ℕ → Bool
is_comment [] = false
is_comment (b ∷ bs) = b == 35

-- the command of a name
abbrev pub verb_of : List ℕ → Option Verb
verb_of name =
    cond (bytes_eq name (codes "read")) (Some verb.Read) (cond (bytes_eq name (codes "write")) (Some verb.Write) None)

-- `read` takes the card's line
abbrev pub read_request : Option (List ℕ) → Request
read_request None = malformed verb.Read
read_request (Some line) = read_card line

-- `write` takes the fields of a card
abbrev pub write_request : Option (List ℕ) → Request
write_request None = malformed verb.Write
write_request (Some arguments) = write_card arguments

-- what a command asks for, with what stands after its name
abbrev pub asks : Option Verb → Option (List ℕ) → Request
asks None rest = unknown
asks (Some verb.Read) rest = read_request rest
asks (Some verb.Write) rest = write_request rest

-- what a line asks for
abbrev pub request_of : List ℕ → Request
request_of line = cond (is_blank line || is_comment line) nothing (asks (verb_of (name_of line)) (rest_of line))
