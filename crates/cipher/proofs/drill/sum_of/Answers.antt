-- The sum may be reduced after each byte.
use Rattle.std.proofs.Common.{rules, ◌≡◌, ◌+◌, ◌%◌, sum, fold, ℕ, List, [], ◌∷◌, arith}
use Rattle.std.proofs.lemmas.List.Sums.{sum_by-cons}
use Rattle.cipher.proofs.drill.sum_of.Goals as goal

reduced : (total : ℕ) (bytes : List ℕ) → fold (λ t byte. (t + byte) % 256) total bytes % 256 ≡ (total + sum bytes) % 256
reduced total [] = omega arith
reduced total (byte ∷ more) = omega (arith, reduced ((total + byte) % 256) more, sum_by-cons (λ x. x) byte more)

pub returns : goal.returns
returns c =
    let made : c.fold.result ≡ fold (λ t byte. (t + byte) % 256) 0 c.args.bytes.now = search rules in
    omega (arith, made, reduced 0 c.args.bytes.now, c.fold.type_inv)
