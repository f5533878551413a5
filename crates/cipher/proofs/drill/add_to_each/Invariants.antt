-- The bytes written, and then the others, as they will be.
use Rattle.std.proofs.Common.{◌≡◌, ℕ, ◌+◌, ◌%◌, ◌++◌, map, take, drop}
use Rattle.cipher.proofs.drill.add_to_each.Given as goal

abbrev pub invariant-loop-byte : goal.invariant-loop-byte
invariant-loop-byte l =
    let f : ℕ → ℕ = λ byte. (byte + l.addend) % 256 in
    take l.byte-index l.bytes ++ map f (drop l.byte-index l.bytes) ≡ map f l.initial.bytes
