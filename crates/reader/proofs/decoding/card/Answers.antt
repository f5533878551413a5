-- A count that fits leaves no word out.
use Rattle.std.proofs.Common.{rules, ◌≡◌, ◌≤◌, true, leb, length, take, sym, ap, ◌∙◌}
use Rattle.std.proofs.lemmas.List.{take_all}
use Rattle.std.proofs.lemmas.Bool.{and_parts, leb-true}
use Rattle.refusal.specs.declared.Refusal.TheVariants.{WordCount}
use Rattle.checksum.specs.Values.{values}
use Rattle.reader.specs.Reading.{count_fits, padding_bits, checked_words}
use Rattle.reader.proofs.CheckedFields.{passed}
use Rattle.reader.proofs.decoding.card.Goals as goal

pub returns : goal.returns
returns c ws h =
    let list = c.args.words.now in
    let card = c.in_ok-ok_or.field-0 in
    let same : (card.words.now ≡ take list.count list.elements) × (length card.words.now ≡ list.count) = search rules in
    let size : length card.words.now ≡ length ws = same.1 ∙ h.count in
    let fits : count_fits (length ws) ≡ true = ap count_fits (sym size) ∙ card.fits in
    let most : length ws ≤ 59 = leb-true (length ws) 59 (and_parts (leb (length ws) 59) (leb (padding_bits (length ws)) 8) (and_parts (leb 20 (length ws)) _ fits).1).0 in
    let all : values card.words.now ≡ ws =
    ap values same.0 ∙ ap (λ m. values (take m list.elements)) h.count ∙ h.first ∙ take_all 59 ws most in
    c.card.ensures ∙ ap checked_words all ∙ sym (passed (count_fits (length ws)) (WordCount (length ws)) (checked_words ws) fits)
