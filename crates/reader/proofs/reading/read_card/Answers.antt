-- What is promised of a line that is read.
use Rattle.std.proofs.Common.{sym, ◌∙◌}
use Rattle.reader.proofs.CardPromises.{read_back, read_as, notices}
use Rattle.reader.proofs.reading.read_card.Goals as goal

pub returns : goal.returns
returns g c =
    let lexicon = g.L.Lexicon.words c.args.lexicon.now in
    let lawful = g.met.L.Lexicon.lawful c.args.lexicon.now in
    let line = c.args.line.now in
    let which = c.read_line.ensures in
    record {
      which = which;
      back = λ f e. (read_back lexicon lawful line f (sym which ∙ e)).back;
      spelled = λ f e. read_as lexicon lawful f (read_back lexicon lawful line f (sym which ∙ e)).fields;
      damaged = λ f e. notices lexicon lawful f (read_back lexicon lawful line f (sym which ∙ e)).fields;
    }
