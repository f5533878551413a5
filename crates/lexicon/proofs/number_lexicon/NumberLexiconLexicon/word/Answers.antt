-- The four digits are the word.
use Rattle.std.proofs.Common.{rules}
use Rattle.lexicon.specs.NumberWordsLemmas.{numbered-at}
use Rattle.lexicon.proofs.number_lexicon.NumberLexiconLexicon.word.Goals as goal

pub returns : goal.returns
returns c = rw (numbered-at 1024 c.args.index.value c.args.index.bound) (search rules)
