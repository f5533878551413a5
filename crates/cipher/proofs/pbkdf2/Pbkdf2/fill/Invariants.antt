-- The salt is as it was, and the blocks so far are written, as far as they go.
use Rattle.std.proofs.Common.{◌≡◌, ◌-◌, ◌*◌, min, length, take}
use Rattle.cipher.specs.Stretching.{blocks}
use Rattle.cipher.proofs.pbkdf2.Pbkdf2.fill.Given as goal

abbrev pub invariant-loop-i : goal.invariant-loop-i
invariant-loop-i g l =
    let D = g.D.KeyedDigest in
    let salt = take (length l.initial.text - 4) l.initial.text in
    let at = min (l.i * D.size) l.length in
    record {
      room : (length l.last.bytes.now ≡ D.size) × (length l.sum.bytes.now ≡ D.size);
      kept : take (length l.text - 4) l.text ≡ salt;
      held : take at l.out ≡ take at (blocks (D.keyed l.self.password.now) salt l.self.count l.i);
    }
