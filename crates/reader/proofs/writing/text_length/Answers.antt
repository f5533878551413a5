-- The letters and the spaces.
use Rattle.std.proofs.Common.{sym, ap₂, ◌∙◌, ◌+◌}
use Rattle.reader.proofs.TextOfWords.{letters-and-spaces}
use Rattle.reader.proofs.writing.text_length.Goals as goal

pub returns : goal.returns
returns g c =
    ap₂ ◌+◌ c.all_letters.ensures.same c.saturating_sub.ensures ∙ sym (letters-and-spaces (g.L.Lexicon.words c.args.lexicon.now) c.args.words.now)
