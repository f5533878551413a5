-- The number after the salt, the first digest, and the chain.
use Rattle.std.proofs.Common.{◌≡◌, ℕ, ◌-◌, ◌≤◌, List, [], ◌++◌, length, take, drop, ap, ◌∙◌, ap₂, arith}
use Rattle.std.proofs.lemmas.List.{length-append, length-take-le, length-drop, drop_all, append-nil}
use borrow.Rule.Slice.PartMut.{put_mid}
use Rattle.digest.specs.Keyed.{chain_total}
use Rattle.digest.proofs.Replies.{digest_whole, chain_whole}
use Rattle.cipher.specs.Stretching.{combined, int}
use Rattle.cipher.proofs.Chained.{chain_combined}
use Rattle.cipher.proofs.pbkdf2.Pbkdf2.write_block.Goals as goal

numbered : (text number put : List ℕ) (n : ℕ) → n ≤ length text → put ≡ number → put_mid n (length text - n) text put ≡ take n text ++ number
numbered text number put n h e =
    let rest : drop (length text - n) (drop n text) ≡ [] = drop_all _ (drop n text) (omega (arith, length-drop n text)) in
    ap (λ (x : List ℕ). take n text ++ x) (ap₂ ◌++◌ e rest ∙ append-nil number)

pub returns-clause-gives : goal.returns-clause-gives
returns-clause-gives g c =
    let D = g.D.KeyedDigest in
    let L : ℕ = D.size in
    let key : List ℕ = c.args.self.now.password.now in
    let f : List ℕ → List ℕ = D.keyed key in
    let count : ℕ = c.args.self.now.count in
    let end : ℕ = length c.args.text.now - 4 in
    let text : List ℕ = put_mid end (length c.args.text.now - end) c.args.text.now c.copy_from_slice.new.self in
    let link : List ℕ = c.digest.new.out in
    let total : List ℕ = c.copy_from_slice-2.new.self in
    let long : length link ≡ L = omega (arith, c.digest.auto.out, c.requires.room.0) in
    let long2 : length total ≡ L = omega (arith, c.copy_from_slice-2.auto.self, c.requires.room.1) in
    let is : text ≡ take end c.args.text.now ++ int c.args.number = numbered c.args.text.now (int c.args.number) c.copy_from_slice.new.self end (omega arith) (c.copy_from_slice.ensures.after ∙ c.to_be_bytes.ensures) in
    let fits : length text ≤ 65536 = omega (arith, ap length is, length-append (take end c.args.text.now) (int c.args.number), length-take-le end c.args.text.now (omega arith), c.requires.fits) in
    let first = digest_whole L key text c.args.link.now (f text) link c.digest.result c.args.self.now.short fits c.requires.room.0 c.digest.ensures.answer c.digest.ensures.writes in
    chain_whole L key link total total (chain_total f (take L link) (take L total) (count - 1)) c.chain.new.total c.chain.result c.args.self.now.short long long2 long2 c.chain.ensures.answer c.chain.ensures.sum
    ∙ chain_combined f text L count link total c.args.self.now.some first c.copy_from_slice-2.ensures.after long
    ∙ ap (λ t. combined f t count) is
