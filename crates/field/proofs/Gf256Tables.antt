-- Products and inverses in the field of 256 elements by the tables of powers of 3 and of logarithms.
use Rattle.std.proofs.Common.{◌≡◌, ℕ, zero, suc, ◌+◌, ◌-◌, ◌%◌, ◌<◌, Bool, true, cond, T, eqb, ltb, get_or, sym, refl, ap, ◌∙◌, subst, ap₂, add-zero, add-suc, mod-lt, arith, lit<, ltb→lt, ne_eqb}
use Rattle.std.proofs.lemmas.Bool.{eqb-true, agree_below, agree_below_at}
use Rattle.field.specs.CarryLess.{times_x, product_by, times_squares}
use Rattle.field.specs.Gf256.{multiplied, inverted, powers_from, powers, place_of, logarithms_from, logarithms}
use Rattle.field.specs.CarryLessRing.{product_assoc, product_one}

-- ---- tests of the tables, computed
-- the power after 3^i, and after 3^254 it is 1 again
next_power : ℕ → Bool
next_power i = eqb (get_or powers (suc i % 255) 0) (multiplied (get_or powers i 0) 3)

all-next : agree_below next_power (λ _. true) 255 ≡ true
unfolding next_power powers powers_from times_x product_by
all-next = refl

small_power : ℕ → Bool
small_power i = ltb (get_or powers i 0) 256

all_small : agree_below small_power (λ _. true) 255 ≡ true
unfolding small_power powers powers_from times_x product_by
all_small = refl

-- 3 to the power of its logarithm
power-back : ℕ → Bool
power-back a = cond (eqb a 0) true (eqb (get_or powers (get_or logarithms a 0 % 255) 0) a)

all_back : agree_below power-back (λ _. true) 256 ≡ true
unfolding power-back logarithms logarithms_from place_of powers powers_from times_x product_by
all_back = refl

inverse-power : ℕ → Bool
inverse-power a = cond (eqb a 0) true (eqb (get_or powers ((255 - get_or logarithms a 0) % 255) 0) (inverted a))

all-inverse : agree_below inverse-power (λ _. true) 256 ≡ true
unfolding inverse-power logarithms logarithms_from place_of powers powers_from times_x product_by times_squares
all-inverse = refl

-- ---- products
-- 3^i, for any i
P : ℕ → ℕ
P i = get_or powers (i % 255) 0

P_suc : (i : ℕ) → P (suc i) ≡ multiplied (P i) 3
unfolding P next_power
P_suc i =
    let e : suc i % 255 ≡ suc (i % 255) % 255 = omega arith in
    ap (λ n. get_or powers n 0) e
    ∙ eqb-true (get_or powers (suc (i % 255) % 255) 0) (multiplied (get_or powers (i % 255) 0) 3) (agree_below_at next_power (λ _. true) 255 (i % 255) all-next (mod-lt i (lit< tt)))

P_lt : (i : ℕ) → P i < 256
unfolding P small_power
P_lt i = ltb→lt (get_or powers (i % 255) 0) 256 (subst T (sym (agree_below_at small_power (λ _. true) 255 (i % 255) all_small (mod-lt i (lit< tt)))) tt)

P_zero : P 0 ≡ 1
unfolding P powers powers_from
P_zero = refl

P_add : (i j : ℕ) → P (i + j) ≡ multiplied (P i) (P j)
P_add i zero = ap P (add-zero i) ∙ sym (ap (multiplied (P i)) P_zero ∙ product_one 8 27 7 (P i))
P_add i (suc j) =
    ap P (add-suc i j) ∙ P_suc (i + j) ∙ ap (λ x. multiplied x 3) (P_add i j)
    ∙ product_assoc 8 27 (lit< tt) (P i) (P j) 3 (P_lt i) (P_lt j) (lit< tt)
    ∙ ap (multiplied (P i)) (sym (P_suc j))

P_logarithm : (a : ℕ) → a < 256 → (a ≡ 0 → ⊥) → P (get_or logarithms a 0) ≡ a
unfolding P power-back
P_logarithm a h n =
    eqb-true (get_or powers (get_or logarithms a 0 % 255) 0) a
    (subst (λ b. cond b true (eqb (get_or powers (get_or logarithms a 0 % 255) 0) a) ≡ true) (ne_eqb a 0 n) (agree_below_at power-back (λ _. true) 256 a all_back h))

pub by_logarithms : (a b : ℕ) → a < 256 → b < 256 → (a ≡ 0 → ⊥) → (b ≡ 0 → ⊥)
    → get_or powers ((get_or logarithms a 0 + get_or logarithms b 0) % 255) 0 ≡ multiplied a b
unfolding P
by_logarithms a b ha hb na nb = P_add (get_or logarithms a 0) (get_or logarithms b 0) ∙ ap₂ multiplied (P_logarithm a ha na) (P_logarithm b hb nb)

-- ---- inverses
pub by_negative : (a : ℕ) → a < 256 → (a ≡ 0 → ⊥) → get_or powers ((255 - get_or logarithms a 0) % 255) 0 ≡ inverted a
unfolding inverse-power
by_negative a h n =
    eqb-true (get_or powers ((255 - get_or logarithms a 0) % 255) 0) (inverted a)
    (subst (λ b. cond b true (eqb (get_or powers ((255 - get_or logarithms a 0) % 255) 0) (inverted a)) ≡ true) (ne_eqb a 0 n) (agree_below_at inverse-power (λ _. true) 256 a all-inverse h))
