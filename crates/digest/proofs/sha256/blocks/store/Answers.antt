-- Byte by byte.
use Rattle.std.proofs.Common.{◌/◌, ◌%◌, get_or, sym, ap, ◌∙◌, arith, rules}
use Rattle.digest.specs.Sha256.{be32, bytes_of}
use Rattle.digest.proofs.Made.{made_by}
use Rattle.digest.proofs.WordChains.{listed-is}
use Rattle.digest.proofs.sha256.blocks.store.Goals as goal

pub returns : goal.returns
returns c =
    made_by _ _ (λ i. get_or (be32 (get_or c.args.words (i / 4) 0)) (i % 4) 0) (λ i y q k. search rules) _ 32 c.from_fn.ensures.items
    ∙ ap bytes_of (sym (listed-is 8 c.args.words (omega arith)))
