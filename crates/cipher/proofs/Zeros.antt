-- Bytes that are all zero.
use Rattle.std.proofs.Common.{◌≡◌, ℕ, zero, suc, Bool, true, false, ◌&&◌, eqb, List, [], ◌∷◌, ◌++◌, length, get_or, take, drop, replicate, sym, refl, ap, ◌∙◌, ap₂, arith}
use Rattle.std.proofs.Math.Bool.{and-true}
use Rattle.std.proofs.lemmas.List.{take-append-drop}
use Rattle.std.proofs.lemmas.Bool.{eqb-true, and_parts}
use Rattle.cipher.specs.Wiped.{is_zero}

and_assoc : (a b c : Bool) → ((a && b) && c) ≡ (a && (b && c))
and_assoc true b c = refl
and_assoc false b c = refl

pub zero_replicate : (n : ℕ) → is_zero (replicate n 0) ≡ true
zero_replicate zero = refl
zero_replicate (suc n) = zero_replicate n

pub replicate-zero : (xs : List ℕ) → is_zero xs ≡ true → xs ≡ replicate (length xs) 0
replicate-zero [] h = refl
replicate-zero (x ∷ xs) h =
    let both = and_parts (eqb x 0) (is_zero xs) h in
    ap₂ (λ (y : ℕ) (ys : List ℕ). y ∷ ys) (eqb-true x 0 both.0) (replicate-zero xs both.1)

pub zero_none : (xs : List ℕ) → length xs ≡ 0 → true ≡ is_zero xs
zero_none [] h = refl
zero_none (x ∷ xs) h = absurd (omega arith)

pub zero_one : (xs : List ℕ) → length xs ≡ 1 → eqb (get_or xs 0 0) 0 ≡ is_zero xs
zero_one [] h = absurd (omega arith)
zero_one (x ∷ []) h = sym (and-true (eqb x 0))
zero_one (x ∷ (y ∷ xs)) h = absurd (omega arith)

zero_append : (xs ys : List ℕ) → is_zero (xs ++ ys) ≡ (is_zero xs && is_zero ys)
zero_append [] ys = refl
zero_append (x ∷ xs) ys = ap (λ b. eqb x 0 && b) (zero_append xs ys) ∙ sym (and_assoc (eqb x 0) (is_zero xs) (is_zero ys))

-- the two parts before and after a place
pub zero_parts : (xs x y : List ℕ) (m : ℕ) (b : Bool) → x ≡ take m xs → y ≡ drop m xs → b ≡ is_zero x → (b && is_zero y) ≡ is_zero xs
zero_parts xs x y m b hx hy e =
    ap₂ ◌&&◌ (e ∙ ap is_zero hx) (ap is_zero hy) ∙ sym (zero_append (take m xs) (drop m xs)) ∙ ap is_zero (take-append-drop m xs)
