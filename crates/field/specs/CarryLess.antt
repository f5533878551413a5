-- The product of polynomials over two values modulo x^d + r; bit k of a number is the coefficient of x^k.
use Rattle.std.specs.Prelude.{◌≡◌, ℕ, zero, suc, ◌-◌, ◌*◌, ◌/◌, ◌%◌, ◌^◌, ◌<◌, false, cond, Some, None, Option, ◌==◌, bit_xor}

-- x · a: the coefficients go up by one place, and r takes the place of x^d
unfoldable pub times_x : ℕ → ℕ → ℕ → ℕ
times_x d r a = bit_xor (a * 2 % 2 ^ d) (a * 2 / 2 ^ d % 2 * r)

-- a · b, by the k lowest coefficients of b: the lowest times a, plus x times the product by the others
unfoldable pub product_by : ℕ → ℕ → ℕ → ℕ → ℕ → ℕ
product_by d r zero a b = 0
product_by d r (suc k) a b = bit_xor (b % 2 * a) (times_x d r (product_by d r k a (b / 2)))

-- a · b modulo x^d + r
abbrev pub product_modulo : ℕ → ℕ → ℕ → ℕ → ℕ
product_modulo d r a b = product_by d r d a b

-- p · a^2 · a^4 · .., k factors after p
unfoldable pub times_squares : ℕ → ℕ → ℕ → ℕ → ℕ → ℕ
times_squares d r zero a p = p
times_squares d r (suc k) a p = times_squares d r k (product_modulo d r a a) (product_modulo d r p (product_modulo d r a a))

-- a^(2^d - 2), which is a^2 · a^4 · .. · a^(2^(d - 1))
abbrev pub inverted : ℕ → ℕ → ℕ → ℕ
inverted d r a = times_squares d r (d - 1) a 1

-- ---- a type whose elements are the numbers below 2^d, by their bits
abbrev pub sum : {F : Type 0} → (ℕ → F) → (F → ℕ) → F → F → F
sum element bits a b = element (bit_xor (bits a) (bits b))

abbrev pub product : {F : Type 0} → ℕ → ℕ → (ℕ → F) → (F → ℕ) → F → F → F
product d r element bits a b = element (product_modulo d r (bits a) (bits b))

-- the inverse, which 0 has not
abbrev pub inverse : {F : Type 0} → ℕ → ℕ → (ℕ → F) → (F → ℕ) → F → Option F
inverse d r element bits a = cond (bits a == 0) None (Some (element (inverted d r (bits a))))

-- the elements are these numbers, r has a degree below d, and each number but 0 has an inverse, its power by k squares
pub record IsRepresentedBySquares {F : Type 0} (d r k : ℕ) (element : ℕ → F) (bits : F → ℕ) : Type 0 where
  pub rest-lt : r < 2 ^ d
  pub one-lt : 1 < 2 ^ d
  pub bits-lt : (a : F) → bits a < 2 ^ d
  pub bits-element : (n : ℕ) → n < 2 ^ d → bits (element n) ≡ n
  pub element-bits : (a : F) → element (bits a) ≡ a
  pub times-inverted : (a : ℕ) → a < 2 ^ d → (a == 0) ≡ false → product_modulo d r a (times_squares d r k a 1) ≡ 1

-- the elements are these numbers, r has a degree below d, and each number but 0 has an inverse
abbrev pub IsRepresented : {F : Type 0} → ℕ → ℕ → (ℕ → F) → (F → ℕ) → Type 0
IsRepresented d r element bits = IsRepresentedBySquares d r (d - 1) element bits
