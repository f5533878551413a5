-- One block more, and the end.
use Rattle.std.proofs.Common.{◌≡◌, ℕ, ◌/◌, List, [], length, get_or, sym, ap, ◌∙◌, ap₂, arith}
use Rattle.digest.specs.Sha256.{compressed, words_of, block_of, hashed}
use Rattle.digest.specs.Padding.{hashed-none, hashed-more}
use Rattle.digest.proofs.Made.{chunk_at}
use Rattle.digest.proofs.sha256.blocks.absorb.Goals as goal

pub loop-block-init : goal.loop-block-init
loop-block-init c = hashed-none _ _

pub loop-block-preserved : goal.loop-block-preserved
loop-block-preserved c =
    let k : ℕ = c.loop-block.block-index in
    let p : List ℕ = c.args.bytes.now in
    let w : c.load.result ≡ block_of k p =
    c.load.ensures ∙ ap (words_of 16) (ap (λ bs. get_or bs k []) c.as_chunks.ensures.front ∙ chunk_at 64 (length p / 64) p k [] (omega (arith, c.as_chunks.ensures.front_len))) in
    c.compress-next.ensures ∙ ap₂ compressed c.loop-block.invariant w ∙ sym (hashed-more c.args.state k p)

pub returns : goal.returns
returns c =
    let all : c.loop-block.block-index ≡ length c.args.bytes.now / 64 = omega (arith, c.as_chunks.ensures.front_len) in
    c.loop-block.invariant ∙ ap (λ n. hashed c.args.state n c.args.bytes.now) all
