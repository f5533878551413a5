-- Of two lists of words that differ in one to three places, not both are right.
use Rattle.std.proofs.Common.{◌≡◌, ℕ, zero, suc, ◌+◌, ◌≤◌, Bool, true, false, cond, eqb, List, [], ◌∷◌, length, sym, refl, ap, ◌∙◌, ap₂, arith}
use Rattle.std.proofs.lemmas.Bool.{eqb-true, eq-eqb}
use Rattle.field.specs.declared.gf1024.Gf1024.{Gf1024}
use Rattle.field.specs.Gf1024.{element, sum}
use Rattle.field.specs.Gf1024Laws.{same, laws}
use Rattle.field.proofs.SparsePolynomial as Sparse
use Rattle.field.proofs.SparsePolynomial.{none, skip, other}
use Rattle.checksum.specs.Values.{values}
use Rattle.checksum.specs.Checksum.{coefficients, is_right, differences, Detects}
use Rattle.checksum.proofs.ChecksumPolynomial.{at, val, front, words-value}
use Rattle.checksum.proofs.ChecksumRoots.{Ones, no_difference}
use Rattle.checksum.proofs.ChecksumRemainder.{is_right-ones}

abbrev gap : List Gf1024 → List Gf1024 → List Gf1024
gap = Sparse.difference laws

one_place : (w v : Gf1024) (n : ℕ) (ws vs : List Gf1024) (b : Bool) → eqb w.value v.value ≡ b
    → ((m : ℕ) → differences ws vs ≤ m → Sparse.Sparse (element 0) m (gap ws vs))
    → cond b 0 1 + differences ws vs ≤ n → Sparse.Sparse (element 0) n (gap (w ∷ ws) (v ∷ vs))
one_place w v n ws vs true e rest h =
    skip (ap (λ x. sum x v) (same w v (eqb-true w.value v.value e)) ∙ laws.sum_self v) (rest n (omega arith))
one_place w v zero ws vs false e rest h = absurd (omega arith)
one_place w v (suc n) ws vs false e rest h = other (rest n (omega arith))

sparse : (n : ℕ) (ws vs : List Gf1024) → differences ws vs ≤ n → Sparse.Sparse (element 0) n (gap ws vs)
sparse n [] vs h = none
sparse n (w ∷ ws) [] h = none
sparse n (w ∷ ws) (v ∷ vs) h = one_place w v n ws vs (eqb w.value v.value) refl (λ m k. sparse m ws vs k) h

differences-self : (ws : List Gf1024) → differences ws ws ≡ 0
differences-self [] = refl
differences-self (w ∷ ws) = ap₂ (λ b n. cond b 0 1 + n) (eq-eqb w.value w.value refl) (differences-self ws)

both_one : (x : Gf1024) (extendable : Bool) (ws vs : List Gf1024)
    → val x (coefficients extendable (values ws)) ≡ element 1 → val x (coefficients extendable (values vs)) ≡ element 1
    → at x (at x (element 1) (front extendable)) ws ≡ at x (at x (element 1) (front extendable)) vs
both_one x extendable ws vs hw hv = sym (words-value x extendable ws) ∙ hw ∙ sym hv ∙ words-value x extendable vs

pub both_right : (extendable : Bool) (ws vs : List Gf1024) → length vs ≡ length ws → length ws ≤ 59 → differences ws vs ≤ 3
    → Ones (coefficients extendable (values ws)) → Ones (coefficients extendable (values vs)) → ws ≡ vs
both_right extendable ws vs l most few w v =
    no_difference (λ x. at x (element 1) (front extendable)) ws vs (sym l) most (sparse 3 ws vs few)
    (both_one (element 2) extendable ws vs w.at_2 v.at_2)
    (both_one (element 4) extendable ws vs w.at_4 v.at_4)
    (both_one (element 8) extendable ws vs w.at_8 v.at_8)

not_true : (b : Bool) → (b ≡ true → ⊥) → b ≡ false
not_true true n = absurd (n refl)
not_true false n = refl

pub detects : (extendable : Bool) (ws : List Gf1024) → Ones (coefficients extendable (values ws)) → Detects extendable ws
detects extendable ws w vs l most some few =
    not_true (is_right extendable (values vs))
    (λ e.
    let s = both_right extendable ws vs l most few w (is_right-ones extendable (values vs) e) in
    let z : differences ws vs ≡ 0 = ap (differences ws) (sym s) ∙ differences-self ws in
    omega arith)
