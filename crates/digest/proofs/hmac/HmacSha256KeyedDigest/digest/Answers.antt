-- The digest under the states of the key.
use Rattle.std.proofs.Common.{List, ◌++◌, drop, ap, ◌∙◌, ap₂, ℕ, arith}
use Rattle.std.proofs.lemmas.List.{length-take-le}
use Rattle.digest.specs.Parts.{finished}
use Rattle.digest.proofs.Keys.{hmac-is}
use Rattle.digest.proofs.hmac.HmacSha256KeyedDigest.digest.Goals as goal

pub copy_from_slice-requires : goal.copy_from_slice-requires
copy_from_slice-requires c = length-take-le 32 c.args.out.now c.in_ok-check_space.ensures.fits ∙ omega arith

pub returns-clause-writes : goal.returns-clause-writes
returns-clause-writes c =
    let key : List ℕ = c.args.key.now in
    let message : List ℕ = c.args.message.now in
    let keyed = c.digest.ensures ∙ ap₂ (λ i o. finished o 64 (finished i 64 message)) c.of_key.ensures.inner c.of_key.ensures.outer in
    ap (λ x. x ++ drop 32 c.args.out.now) (c.copy_from_slice.ensures.after ∙ keyed ∙ hmac-is key message)
