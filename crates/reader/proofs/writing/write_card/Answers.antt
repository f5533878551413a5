-- The card's words, and their text.
use Rattle.std.proofs.Common.{rules, ◌≡◌, ◌≤◌, leb, ◌++◌, length, take, drop, Ok, Err, sym, refl, ap, ◌∙◌, ap₂, arith}
use Rattle.std.proofs.lemmas.List.{take_all}
use Rattle.std.proofs.lemmas.Bool.{le-leb, lt-leb, cond-true, cond-false}
use Rattle.refusal.specs.declared.layers.Layer.TheVariants as layer
use Rattle.refusal.specs.declared.Refusal.TheVariants.{SpaceTooShort}
use Rattle.reader.specs.declared.card.Card.{Card}
use Rattle.reader.specs.declared.words.Words.{Words}
use Rattle.checksum.specs.Values.{values}
use Rattle.reader.specs.Card.{fields_of}
use Rattle.reader.specs.Words.{Holds}
use Rattle.reader.specs.Writing.{words_of, spell, text_of}
use Rattle.reader.proofs.LawfulCards.{card_lawful}
use Rattle.reader.proofs.CardPromises.{text_read, read_as, notices}
use Rattle.reader.proofs.TextBounds.{text_short, text_plain}
use Rattle.reader.proofs.writing.write_card.Goals as goal

-- the words of a card are kept whole
whole-words : (card : Card) (list : Words) → Holds list (words_of (fields_of card)) → list.count ≤ 59 → values (take list.count list.elements) ≡ words_of (fields_of card)
whole-words card list h few =
    ap (λ n. values (take n list.elements)) h.count ∙ h.first ∙ take_all 59 (words_of (fields_of card)) (omega (arith, h.count))

pub returns-then-space-wanted : goal.returns-then-space-wanted
returns-then-space-wanted g c =
    let lexicon = g.L.Lexicon.words c.args.lexicon.now in
    let lawful = g.met.L.Lexicon.lawful c.args.lexicon.now in
    let f = fields_of c.args.card.now in
    let ok = card_lawful c.args.card.now in
    let list = c.encode-list.result in
    let kept : (length c.unwrap-words.result.now ≡ list.count) × (c.unwrap-words.result.now ≡ take list.count list.elements) = search rules in
    let same = ap values kept.1 ∙ whole-words c.args.card.now list c.encode-list.ensures.holds c.encode-list.ensures.few in
    let size : c.text_length-wanted.result ≡ length (text_of lexicon f) = c.text_length-wanted.ensures ∙ ap (λ l. length (spell lexicon l)) same in
    record {
      count = ap (λ n. Err (SpaceTooShort layer.Text n)) size
          ∙ sym (cond-false (leb (length (text_of lexicon f)) (length c.args.space.now)) _ _ (lt-leb (length (text_of lexicon f)) (length c.args.space.now) (omega (arith, size))));
      writes = refl;
      short = text_short lexicon lawful f ok;
      plain = text_plain lexicon lawful f;
      reads = text_read lexicon lawful f ok;
      spelled = read_as lexicon lawful f ok;
      damaged = notices lexicon lawful f ok;
    }

pub returns : goal.returns
returns g c =
    let lexicon = g.L.Lexicon.words c.args.lexicon.now in
    let lawful = g.met.L.Lexicon.lawful c.args.lexicon.now in
    let f = fields_of c.args.card.now in
    let ok = card_lawful c.args.card.now in
    let list = c.encode-list.result in
    let kept : (length c.unwrap-words.result.now ≡ list.count) × (c.unwrap-words.result.now ≡ take list.count list.elements) = search rules in
    let same = ap values kept.1 ∙ whole-words c.args.card.now list c.encode-list.ensures.holds c.encode-list.ensures.few in
    let size : c.text_length-wanted.result ≡ length (text_of lexicon f) = c.text_length-wanted.ensures ∙ ap (λ l. length (spell lexicon l)) same in
    record {
      count = ap Ok size
          ∙ sym (cond-true (leb (length (text_of lexicon f)) (length c.args.space.now)) _ _ (le-leb (length (text_of lexicon f)) (length c.args.space.now) (omega (arith, size))));
      writes = c.write_words.ensures ∙ ap₂ (λ l n. spell lexicon l ++ drop n c.args.space.now) same (ap (λ l. length (spell lexicon l)) same ∙ sym size);
      short = text_short lexicon lawful f ok;
      plain = text_plain lexicon lawful f;
      reads = text_read lexicon lawful f ok;
      spelled = read_as lexicon lawful f ok;
      damaged = notices lexicon lawful f ok;
    }
