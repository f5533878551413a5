-- Every byte is written.
use Rattle.std.proofs.Common.{length, sym, ◌∙◌, arith}
use Rattle.std.proofs.lemmas.List.{take_all}
use Rattle.checksum.specs.Values.{values}
use Rattle.reader.proofs.BitFields.{bytes-in-a-row}
use Rattle.reader.proofs.card_words.CardWords.fill_bytes.Goals as goal

pub returns : goal.returns
returns c =
    let n = length c.args.bytes.now in
    sym (take_all n c.loop-k.bytes (omega arith))
    ∙ bytes-in-a-row (values c.args.self.now.words.now) c.args.from n c.loop-k.bytes (omega arith) (λ j h. c.loop-k.invariant j (omega arith))
