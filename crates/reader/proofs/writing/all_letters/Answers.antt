-- A word of a lexicon has no more than eight letters.
use Rattle.std.proofs.Common.{rules, ◌≡◌, sum_by, arith}
use Rattle.reader.proofs.TextOfWords.{letters, letters-few}
use Rattle.reader.proofs.writing.all_letters.Goals as goal

pub returns-clause-few : goal.returns-clause-few
returns-clause-few g c =
    let lexicon = g.L.Lexicon.words c.args.lexicon.now in
    let lawful = g.met.L.Lexicon.lawful c.args.lexicon.now in
    let same : c.sum.result ≡ sum_by (letters lexicon) c.args.words.now = search rules in
    omega (arith, same, letters-few lexicon (λ e. lawful.most e.value e.bound) c.args.words.now)
