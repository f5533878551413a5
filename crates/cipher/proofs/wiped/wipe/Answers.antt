-- One turn is enough.
use Rattle.std.proofs.Common.{◌≡◌, true, false, length, replicate, sym, ap, ◌∙◌, lit<, rules}
use Rattle.cipher.specs.Wiped.{is_zero}
use Rattle.cipher.proofs.Zeros.{zero_replicate, replicate-zero}
use Rattle.cipher.proofs.wiped.wipe.Goals as goal

pub loop-bytes-smaller : goal.loop-bytes-smaller
loop-bytes-smaller c =
    let done : c.fill.new.self ≡ replicate (length c.loop-bytes.bytes) 0 = search rules in
    let all : is_zero c.fill.new.self ≡ true = ap is_zero done ∙ zero_replicate (length c.loop-bytes.bytes) in
    let some : is_zero c.loop-bytes.bytes ≡ false = sym c.loop-bytes-test.ensures in
    rw (all, some) (lit< tt)

pub returns : goal.returns
returns c = replicate-zero c.loop-bytes.bytes (sym c.loop-bytes-test.ensures) ∙ ap (λ n. replicate n 0) c.loop-bytes.auto.bytes
