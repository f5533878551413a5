-- One block more, and the end.
use Rattle.std.proofs.Common.{◌≡◌, ℕ, ◌+◌, ◌-◌, ◌*◌, ◌<◌, min, List, ◌++◌, length, take, sym, ap, ◌∙◌, arith, rules}
use Rattle.std.specs.Int.{div_ceil}
use Rattle.cipher.specs.Stretching.{int, combined}
use Rattle.cipher.proofs.Filled.{one_more, whole}
use Rattle.cipher.proofs.pbkdf2.Pbkdf2.fill.Goals as goal

pub loop-i-preserved : goal.loop-i-preserved
loop-i-preserved g c =
    let D = g.D.KeyedDigest in
    let L : ℕ = D.size in
    let key : List ℕ = c.args.self.now.password.now in
    let salt : List ℕ = take (length c.args.text.now - 4) c.args.text.now in
    let n : ℕ = length c.args.out.now in
    let i : ℕ = c.loop-i.i in
    let is : c.length-size.result ≡ L = c.length-size.ensures in
    let more : i < div_ceil n L = rw (sym is) (rw (sym c.div_ceil-i-end.ensures) c.loop-i-test.true) in
    let block = c.write_block.ensures.gives ∙ ap (λ s. combined (D.keyed key) (s ++ int (i + 1)) c.args.self.now.count) c.loop-i.invariant.kept in
    record {
      room = search rules;
      kept = ap (λ k. take (k - 4) c.write_block.new.text) c.write_block.auto.text ∙ c.write_block.ensures.keeps ∙ c.loop-i.invariant.kept;
      held = one_more D.keyed key L (g.met.D.KeyedDigest.sized key) (omega (arith, g.met.D.KeyedDigest.small.0)) salt c.args.self.now.count c.args.self.now.some
          n i (i * c.length-size.result) c.min-end.result c.loop-i.out c.write_block.new.total c.copy_from_slice.new.self
          more c.loop-i.auto.out (ap (λ k. i * k) is) (c.min-end.ensures ∙ ap (λ k. min n (i * c.length-size.result + k)) is) c.loop-i.invariant.held block (omega (arith, c.write_block.auto.total, c.loop-i.invariant.room.1)) c.copy_from_slice.ensures.after;
    }

pub returns-clause-writes : goal.returns-clause-writes
returns-clause-writes g c =
    let D = g.D.KeyedDigest in
    let key : List ℕ = c.args.self.now.password.now in
    let n : ℕ = length c.args.out.now in
    let last : c.loop-i.i ≡ div_ceil n D.size = omega (arith, c.loop-i-test.false, c.loop-i.auto.i-end) ∙ c.div_ceil-i-end.ensures ∙ ap (div_ceil n) c.length-size.ensures in
    whole D.keyed key D.size (g.met.D.KeyedDigest.sized key) (omega (arith, g.met.D.KeyedDigest.small.0)) (take (length c.args.text.now - 4) c.args.text.now) c.args.self.now.count c.args.self.now.some
    n c.loop-i.i c.loop-i.out c.loop-i.auto.out last c.loop-i.invariant.held
