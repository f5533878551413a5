-- What the program's arguments choose.
use Rattle.std.specs.Prelude.{ℕ, cond, List, Some, None, codes, Option}
use Rattle.std.specs.Str.{bytes_eq}
use Rattle.commands.specs.declared.settings.LexiconChoice.{LexiconChoice}
use Rattle.commands.specs.declared.settings.LexiconChoice.TheVariants.{Numbers, WordFile}
use Rattle.commands.specs.declared.settings.Suite.{Suite}
use Rattle.commands.specs.declared.settings.Suite.TheVariants.{Shop, Drill}

-- the path of the word file that is chosen, if it is not the number lexicon
abbrev pub chosen : LexiconChoice → Option (List ℕ)
chosen Numbers = None
chosen (WordFile path) = Some path.now

abbrev pub lexicon_of : List ℕ → Option (List ℕ)
lexicon_of name = cond (bytes_eq name (codes "numbers")) None (Some name)

abbrev pub suite_of : List ℕ → Option Suite
suite_of name =
    cond (bytes_eq name (codes "shop")) (Some Shop) (cond (bytes_eq name (codes "drill")) (Some Drill) None)
