-- What the reader promises of every card that there can be, under the words of every lexicon.
use Rattle.std.specs.Prelude.{◌≡◌, ℕ, List, Ok}
use Rattle.reader.specs.Card.{Fields}
use Rattle.lexicon.specs.Lexicon as lexicons
use Rattle.reader.specs.Reading.{reading}
use Rattle.reader.specs.Spelling.{ReadAs, Notices}
use Rattle.reader.specs.Writing.{Lawful, text_of}

pub record Promises (lexicon : List (List ℕ)) : Type 0 where
  -- a card's text is read as that card
  pub text_is_read : (f : Fields) → Lawful f → reading lexicon (text_of lexicon f) ≡ Ok f
  -- and so is every line that spells its words
  pub spelled_is_read : (f : Fields) → Lawful f → ReadAs lexicon f
  -- with one to three words replaced by words of other indices, the flag kept, it is refused
  pub damage_is_noticed : (f : Fields) → Lawful f → Notices lexicon f
  -- what is read is a card
  pub read_is_lawful : (line : List ℕ) (f : Fields) → reading lexicon line ≡ Ok f → Lawful f

-- under every lexicon
abbrev pub AlwaysPromises : Type 0
AlwaysPromises = (lexicon : List (List ℕ)) → lexicons.Lawful lexicon → Promises lexicon
