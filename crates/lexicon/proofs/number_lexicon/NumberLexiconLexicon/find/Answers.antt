-- Four digits of a number below 1,024 are its word; any other bytes stand for no word, or for several.
use Rattle.std.proofs.Common.{sym, arith}
use Rattle.lexicon.specs.NumberWordsLemmas.{looked_up, unknown}
use Rattle.lexicon.proofs.number_lexicon.NumberLexiconLexicon.find.Goals as goal

pub returns-in_err-decimal : goal.returns-in_err-decimal
returns-in_err-decimal c = rw c.from_residual.ensures (sym (unknown c.args.bytes.now (λ n h. c.in_err-decimal.ensures n (omega arith))))

pub returns : goal.returns
returns c = looked_up c.args.bytes.now c.in_ok-decimal.field-0 c.new.result c.in_ok-decimal.ensures.0 c.in_ok-decimal.ensures.1 c.new.ensures
