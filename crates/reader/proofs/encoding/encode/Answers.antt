-- The check words after the others.
use Rattle.std.proofs.Common.{rules, ◌≡◌, ◌+◌, ◌≤◌, List, [], ◌∷◌, ◌++◌, length, get_or, take, sym, ap, ◌∙◌, subst, append_assoc, append-nil, arith}
use Rattle.std.proofs.lemmas.List.{take_all, take_more, length-map, map_push}
use Rattle.field.specs.declared.gf1024.Gf1024.{Gf1024}
use Rattle.checksum.specs.Values.{values}
use Rattle.reader.specs.declared.words.Words.{Words}
use Rattle.reader.specs.Card.{Fields, fields_of}
use Rattle.checksum.specs.Checksum.{customization, check_words_of}
use Rattle.reader.specs.Words.{Holds}
use Rattle.reader.specs.Writing.{data_words}
use Rattle.reader.proofs.CardRoundTrip.{data_small}
use Rattle.checksum.proofs.CheckWords.{three-checks}
use Rattle.reader.proofs.encoding.encode.Goals as goal

-- the check words are those of all the data words
checks : (f : Fields) (held : Words) (all check : List Gf1024) → Holds held (data_words f) → held.count ≤ 56
    → all ≡ take held.count held.elements → values check ≡ check_words_of (customization f.extendable ++ values all)
    → (values check ≡ check_words_of (customization f.extendable ++ data_words f)) × (length check ≡ 3)
checks f held all check h few same e =
    let D = data_words f in
    let front : values all ≡ D =
    ap values same ∙ ap (λ m. values (take m held.elements)) h.count ∙ h.first ∙ take_all 59 D (omega (arith, h.count)) in
    let is : values check ≡ check_words_of (customization f.extendable ++ D) = e ∙ ap (λ l. check_words_of (customization f.extendable ++ l)) front in
    (is, sym (length-map check (λ a. a.value)) ∙ ap length is ∙ three-checks f.extendable D (data_small f))

pub loop-element-init : goal.loop-element-init
loop-element-init c =
    let held = c.data_words-words.ensures in
    (subst (Holds c.data_words-words.result) (sym (append-nil (data_words (fields_of c.args.card.now)))) held.holds, omega (arith, held.few))

pub loop-element-preserved : goal.loop-element-preserved
loop-element-preserved c =
    let f = fields_of c.args.card.now in
    let D = data_words f in
    let held = c.data_words-words.ensures in
    let check = c.check_words-check.result in
    let i = c.loop-element.element-index in
    let all : c.unwrap.result.now ≡ take c.data_words-words.result.count c.data_words-words.result.elements = search rules in
    let e = c.element-item.result in
    let size = (checks f c.data_words-words.result c.unwrap.result.now check held.holds held.few all c.check_words-check.ensures.value).1 in
    let front = values (take i check) in
    let more : (D ++ front) ++ (c.index_of.result.value ∷ []) ≡ D ++ values (take (i + 1) check) =
    append_assoc D front (c.index_of.result.value ∷ [])
    ∙ ap (λ l. D ++ l)
    (ap (λ x. front ++ (x ∷ [])) c.index_of.ensures ∙ sym (map_push (λ a. a.value) (take i check) (get_or check i e)) ∙ ap values (sym (take_more check i e (omega arith)))) in (
      subst (Holds c.push.new.self) more (c.push.ensures.holds (D ++ front) c.loop-element.invariant.0),
      omega (arith, c.push.ensures.counts, c.loop-element.invariant.1),
    )

pub returns-clause-holds : goal.returns-clause-holds
returns-clause-holds c =
    let f = fields_of c.args.card.now in
    let D = data_words f in
    let held = c.data_words-words.ensures in
    let check = c.check_words-check.result in
    let i = c.loop-element.element-index in
    let all : c.unwrap.result.now ≡ take c.data_words-words.result.count c.data_words-words.result.elements = search rules in
    let is = checks f c.data_words-words.result c.unwrap.result.now check held.holds held.few all c.check_words-check.ensures.value in
    subst (Holds c.loop-element.words) (ap (λ l. D ++ l) (ap values (take_all i check (omega (arith, is.1))) ∙ is.0)) c.loop-element.invariant.0
