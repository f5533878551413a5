-- Polynomials as lists of coefficients, the highest first, in a field where a difference is a sum.
use Rattle.std.specs.Prelude.{ℕ, zero, suc, ◌-◌, List, [], ◌∷◌, ◌++◌, map, length, drop}

-- x to the power n
abbrev pub power : {F : Type 0} → F → (F → F → F) → F → ℕ → F
power oneF product x zero = oneF
power oneF product x (suc n) = product x (power oneF product x n)

-- the value at x: the sum of each coefficient times x to the power of the number of coefficients after it
abbrev pub value_at : {F : Type 0} → F → F → (F → F → F) → (F → F → F) → F → List F → F
value_at zeroF oneF sum product x [] = zeroF
value_at zeroF oneF sum product x (c ∷ cs) = sum (product c (power oneF product x (length cs))) (value_at zeroF oneF sum product x cs)

-- each coefficient of the second list added to the one at its place in the first
abbrev pub add_front : {F : Type 0} → (F → F → F) → List F → List F → List F
add_front sum cs [] = cs
add_front sum [] (d ∷ ds) = []
add_front sum (c ∷ cs) (d ∷ ds) = sum c d ∷ add_front sum cs ds

-- (x - r)·p = x·p - r·p
abbrev pub times_root : {F : Type 0} → F → (F → F → F) → (F → F → F) → F → List F → List F
times_root zeroF sum product r p = add_front sum (p ++ (zeroF ∷ [])) (zeroF ∷ map (product r) p)

-- p + e
abbrev pub plus_constant : {F : Type 0} → (F → F → F) → F → List F → List F
plus_constant sum e [] = e ∷ []
plus_constant sum e (c ∷ []) = sum c e ∷ []
plus_constant sum e (c ∷ d ∷ ds) = c ∷ plus_constant sum e (d ∷ ds)

-- n steps of long division by a polynomial whose first coefficient is 1: its multiple by the first coefficient c is subtracted,
-- and the first coefficient, then 0, is dropped
abbrev pub divide_steps : {F : Type 0} → (F → F → F) → (F → F → F) → List F → ℕ → List F → List F
divide_steps sum product divisor zero cs = cs
divide_steps sum product divisor (suc n) [] = []
divide_steps sum product divisor (suc n) (c ∷ cs) =
    divide_steps sum product divisor n (drop 1 (add_front sum (c ∷ cs) (map (product c) divisor)))

-- what division by such a polynomial leaves: fewer coefficients than the divisor has
abbrev pub remainder : {F : Type 0} → (F → F → F) → (F → F → F) → List F → List F → List F
remainder sum product divisor cs = divide_steps sum product divisor (suc (length cs) - length divisor) cs
