-- Eight words one by one.
use Rattle.std.proofs.Common.{get_or, ◌∙◌, arith, rules}
use lib.Bits.{bit_xor}
use Rattle.digest.proofs.Made.{made_by}
use Rattle.digest.proofs.WordChains.{xors-eight}
use Rattle.digest.proofs.hmac.links.xor_words.Goals as goal

pub returns : goal.returns
returns c =
    made_by _ _ (λ i. bit_xor (get_or c.args.x i 0) (get_or c.args.y i 0)) (λ i y q k. search rules) _ 8 c.from_fn.ensures.items
    ∙ xors-eight c.args.x c.args.y (omega arith) (omega arith)
