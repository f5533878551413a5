-- One word more, a word that counts for nothing, and the end of the words.
use Rattle.std.proofs.Common.{◌≡◌, ◌+◌, [], ◌∷◌, ◌++◌, length, sym, ap, ◌∙◌, subst, arith}
use Rattle.std.proofs.lemmas.List.{length_push}
use Rattle.reader.specs.Line.{word, pieces_from}
use Rattle.reader.specs.Reading.{indices_in}
use Rattle.reader.proofs.IndicesOfPieces.{prefixed-none, one_more}
use Rattle.reader.proofs.reading.read_words.Goals as goal

pub loop-offset-init : goal.loop-offset-init
loop-offset-init g c =
    let lexicon = g.L.Lexicon.words c.args.lexicon.now in
    let start : c.new-tokens.result.position ≡ 0 = c.new-tokens.ensures.0 in (
      c.new-tokens.ensures.1,
      omega (arith, c.none-read.ensures.count),
      ([], (c.none-read.ensures, prefixed-none _ ∙ ap (λ p. indices_in lexicon (pieces_from c.args.line.now p)) start)),
    )

pub loop-offset-preserved : goal.loop-offset-preserved
loop-offset-preserved g c =
    let lexicon = g.L.Lexicon.words c.args.lexicon.now in
    let line = c.args.line.now in
    let same = c.loop-offset.invariant.0 in
    let front = c.loop-offset.invariant.2.0 in
    let gives = c.in-Word.ensures.gives in
    let v = c.in_ok-index.index.value in
    let kept = c.push.ensures.holds front c.loop-offset.invariant.2.1.0 in
    let size : length (front ++ (v ∷ [])) ≡ length front + 1 = length_push front v in
    let next =
    subst (λ l. pieces_from l c.loop-offset.tokens.position ≡ word c.in-Word.offset c.in-Word.text.now ∷ pieces_from l c.next_token.new.self.position) same gives.0 in (
      c.in-Word.ensures.same ∙ same,
      omega (arith, kept.count, gives.1, c.loop-offset.invariant.2.1.0.count),
      (
        front ++ (v ∷ []),
        (
          kept,
          sym (one_more lexicon front c.in-Word.offset v c.in-Word.text.now _ _ next (sym c.in_ok-index.ensures)) ∙ c.loop-offset.invariant.2.1.1,
        ),
      ),
    )
