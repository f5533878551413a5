-- The first word that does not come before the bytes and the one after it tell whether one word begins with them.
use Rattle.lexicon.proofs.WordFileLookup.{none_found, two-found, found-index}
use Rattle.lexicon.proofs.word_file.lookup.WordFileLexicon.find.Goals as goal

pub returns-then-not-begins_at : goal.returns-then-not-begins_at
returns-then-not-begins_at c =
    let first = c.count_before-first in
    found-index c.args.self.now c.args.bytes.now first.result first.ensures.before first.ensures.after
    c.new.result c.new.ensures c.if-begins_at.ensures c.if-not-begins_at.ensures

pub returns-else-begins_at : goal.returns-else-begins_at
returns-else-begins_at c =
    let first = c.count_before-first in
    elim c.else-begins_at.branch [
      | goal.else-begins_at-via-then-begins_at+else-not-begins_at w ↦
          two-found c.args.self.now c.args.bytes.now first.result first.ensures.before first.ensures.after w.if-begins_at.ensures w.if-not-begins_at.ensures
      | goal.else-begins_at-via-else-begins_at w ↦
          none_found c.args.self.now c.args.bytes.now first.result first.ensures.before first.ensures.after w.if-begins_at.ensures
    ]
