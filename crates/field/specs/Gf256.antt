-- The field of 256 elements: polynomials over two values modulo x^8 + x^4 + x^3 + x + 1.
use Rattle.std.specs.Prelude.{ℕ, zero, suc, ◌%◌, cond, List, [], ◌∷◌, Option, ◌==◌}
use Rattle.std.proofs.Common.{mod-lt, lit<}
use Rattle.field.specs.declared.gf256.Gf256.{Gf256}
use Rattle.field.specs.CarryLess as CarryLess

-- the element with the value n modulo 256
abbrev pub element : ℕ → Gf256
element n = record { value = n % 256; bound = mod-lt n (lit< tt) }

abbrev pub bits : Gf256 → ℕ
bits a = a.value

abbrev pub sum : Gf256 → Gf256 → Gf256
sum = CarryLess.sum element bits

-- the product of two values; x^4 + x^3 + x + 1 is 27
abbrev pub multiplied : ℕ → ℕ → ℕ
multiplied = CarryLess.product_modulo 8 27

abbrev pub product : Gf256 → Gf256 → Gf256
product = CarryLess.product 8 27 element bits

-- a^254, which is a^2 · a^4 · .. · a^128
abbrev pub inverted : ℕ → ℕ
inverted = CarryLess.inverted 8 27

-- the inverse, which 0 has not
abbrev pub inverse : Gf256 → Option Gf256
inverse = CarryLess.inverse 8 27 element bits

-- ---- the tables of the product by logarithms
-- n powers of 3, from p on
unfoldable pub powers_from : ℕ → ℕ → List ℕ
powers_from zero p = []
powers_from (suc n) p = p ∷ powers_from n (multiplied p 3)

-- 3^0 to 3^254
unfoldable pub powers : List ℕ
powers = powers_from 255 1

-- the place of a among powers of 3
unfoldable pub place_of : ℕ → List ℕ → ℕ
place_of a [] = 0
place_of a (p ∷ ps) = cond (p == a) 0 (suc (place_of a ps))

-- the logarithms to base 3 of n elements, from a on; 0 for that of 0
unfoldable pub logarithms_from : ℕ → ℕ → List ℕ
logarithms_from zero a = []
logarithms_from (suc n) a = cond (a == 0) 0 (place_of a powers) ∷ logarithms_from n (suc a)

unfoldable pub logarithms : List ℕ
logarithms = logarithms_from 256 0
