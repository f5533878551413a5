-- The field of 1,024 elements: polynomials over two values modulo x^10 + x^3 + 1.
use Rattle.std.specs.Prelude.{ℕ, ◌%◌, Option}
use Rattle.std.proofs.Common.{mod-lt, lit<}
use Rattle.field.specs.declared.gf1024.Gf1024.{Gf1024}
use Rattle.field.specs.CarryLess as CarryLess

-- the element with the value n modulo 1,024
abbrev pub element : ℕ → Gf1024
element n = record { value = n % 1024; bound = mod-lt n (lit< tt) }

abbrev pub bits : Gf1024 → ℕ
bits a = a.value

abbrev pub sum : Gf1024 → Gf1024 → Gf1024
sum = CarryLess.sum element bits

-- the product of two values; x^3 + 1 is 9
abbrev pub multiplied : ℕ → ℕ → ℕ
multiplied = CarryLess.product_modulo 10 9

abbrev pub product : Gf1024 → Gf1024 → Gf1024
product = CarryLess.product 10 9 element bits

-- a^1022, which is a^2 · a^4 · .. · a^512
abbrev pub inverted : ℕ → ℕ
inverted = CarryLess.inverted 10 9

-- the inverse, which 0 has not
abbrev pub inverse : Gf1024 → Option Gf1024
inverse = CarryLess.inverse 10 9 element bits
