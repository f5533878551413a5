-- Polynomials over two values modulo x^d + r are a commutative ring, for every d and r.
use Rattle.std.specs.Prelude.{◌≡◌, ℕ, zero, suc, ◌+◌, ◌-◌, ◌*◌, ◌/◌, ◌%◌, ◌^◌, ◌<◌, ◌≤◌, bit_xor}
use Rattle.std.proofs.Math.Path.{refl, sym, ap, ap₂, subst}
use Rattle.std.proofs.Common.{◌∙◌, add-zero, one-mul, mod-lt, le_of_suc-le-suc, not-suc-le-zero, mod-eq_of_lt, zero-lt-suc, mul-zero, mul-one, le_refl, lt_of_le_of_lt, le_of_eq}
use Rattle.std.proofs.Math.Nat.{zero-mul, div-eq_of_lt, pow-suc, div-add-mod'}
use native.Mathlib.Omega.{arith}
use Rattle.std.specs.Int.Bits.{xor_assoc, xor_comm, xor_self, xor_zero_r, xor_lt, xor_shifted}
use Rattle.std.proofs.Math.Pow.{pow_pos, pow_mono}
use Rattle.std.proofs.Math.Arith.{lt-one}
use Rattle.std.proofs.lemmas.Nat.{shr-shr, xor_mod, xor_shr, xor_block}
use Rattle.field.specs.CarryLess.{times_x, product_by}

-- ---- xor
pub swap_mid : (a b c e : ℕ) → bit_xor (bit_xor a b) (bit_xor c e) ≡ bit_xor (bit_xor a c) (bit_xor b e)
swap_mid a b c e =
    xor_assoc a b (bit_xor c e)
    ∙ ap (bit_xor a) (sym (xor_assoc b c e) ∙ ap (λ x. bit_xor x e) (xor_comm b c) ∙ xor_assoc c b e)
    ∙ sym (xor_assoc a c (bit_xor b e))

double_xor : (a b : ℕ) → bit_xor a b * 2 ≡ bit_xor (a * 2) (b * 2)
double_xor a b =
    sym (add-zero (bit_xor a b * 2)) ∙ sym (xor_block 1 a b 0 0 (pow_pos 1) (pow_pos 1))
    ∙ ap₂ bit_xor (add-zero (a * 2)) (add-zero (b * 2))

-- a bit of a sum, times n
bit-times : (u v n : ℕ) → u < 2 → v < 2 → bit_xor u v * n ≡ bit_xor (u * n) (v * n)
bit-times zero v n hu hv = sym (ap (λ x. bit_xor x (v * n)) (zero-mul n))
bit-times (suc zero) zero n hu hv = sym (ap (bit_xor (1 * n)) (zero-mul n) ∙ xor_zero_r (1 * n))
bit-times (suc zero) (suc zero) n hu hv = zero-mul n ∙ sym (xor_self (1 * n))
bit-times (suc zero) (suc (suc v)) n hu hv = absurd (not-suc-le-zero (le_of_suc-le-suc (le_of_suc-le-suc hv)))
bit-times (suc (suc u)) v n hu hv = absurd (not-suc-le-zero (le_of_suc-le-suc (le_of_suc-le-suc hu)))

two_pos : 0 < 2
two_pos = zero-lt-suc 1

low_times : (x y n : ℕ) → bit_xor x y % 2 * n ≡ bit_xor (x % 2 * n) (y % 2 * n)
low_times x y n = ap (λ b. b * n) (xor_mod x y 1) ∙ bit-times (x % 2) (y % 2) n (mod-lt x two_pos) (mod-lt y two_pos)

-- a bit times a sum
times-bit : (u a b : ℕ) → u < 2 → u * bit_xor a b ≡ bit_xor (u * a) (u * b)
times-bit zero a b h = zero-mul (bit_xor a b) ∙ sym (ap₂ bit_xor (zero-mul a) (zero-mul b))
times-bit (suc zero) a b h = one-mul (bit_xor a b) ∙ sym (ap₂ bit_xor (one-mul a) (one-mul b))
times-bit (suc (suc u)) a b h = absurd (not-suc-le-zero (le_of_suc-le-suc (le_of_suc-le-suc h)))

pub bit-lt : (u a n : ℕ) → u < 2 → a < n → u * a < n
bit-lt zero a n hu h = lt_of_le_of_lt (le_of_eq (zero-mul a)) (omega arith)
bit-lt (suc zero) a n hu h = lt_of_le_of_lt (le_of_eq (one-mul a)) h
bit-lt (suc (suc u)) a n hu h = absurd (not-suc-le-zero (le_of_suc-le-suc (le_of_suc-le-suc hu)))

module _ (d r : ℕ) where
  pub times_x-xor : (a b : ℕ) → times_x d r (bit_xor a b) ≡ bit_xor (times_x d r a) (times_x d r b)
  unfolding times_x
  times_x-xor a b =
      ap (λ t. bit_xor (t % 2 ^ d) (t / 2 ^ d % 2 * r)) (double_xor a b)
      ∙ ap₂ bit_xor (xor_mod (a * 2) (b * 2) d)
      (ap (λ t. t % 2 * r) (xor_shr (a * 2) (b * 2) d) ∙ low_times (a * 2 / 2 ^ d) (b * 2 / 2 ^ d) r)
      ∙ swap_mid (a * 2 % 2 ^ d) (b * 2 % 2 ^ d) (a * 2 / 2 ^ d % 2 * r) (b * 2 / 2 ^ d % 2 * r)

  -- 0 and linearity in a
  times_x-zero : times_x d r 0 ≡ 0
  unfolding times_x
  times_x-zero =
      ap₂ bit_xor (mod-eq_of_lt (pow_pos d)) (ap (λ t. t % 2 * r) (div-eq_of_lt (pow_pos d)) ∙ zero-mul r)

  pub product-zero : (k a : ℕ) → product_by d r k a 0 ≡ 0
  unfolding product_by
  product-zero zero a = refl
  product-zero (suc k) a = ap₂ bit_xor (zero-mul a) (ap (times_x d r) (product-zero k a) ∙ times_x-zero)

  -- linear in b
  pub product-xor-r : (k a b c : ℕ) → product_by d r k a (bit_xor b c) ≡ bit_xor (product_by d r k a b) (product_by d r k a c)
  unfolding product_by
  product-xor-r zero a b c = refl
  product-xor-r (suc k) a b c =
      ap₂ bit_xor (low_times b c a)
      (ap (times_x d r) (ap (product_by d r k a) (xor_shr b c 1) ∙ product-xor-r k a (b / 2) (c / 2))
      ∙ times_x-xor (product_by d r k a (b / 2)) (product_by d r k a (c / 2)))
      ∙ swap_mid (b % 2 * a) (c % 2 * a) (times_x d r (product_by d r k a (b / 2))) (times_x d r (product_by d r k a (c / 2)))

  -- linear in a
  pub product-xor-l : (k a b c : ℕ) → product_by d r k (bit_xor a b) c ≡ bit_xor (product_by d r k a c) (product_by d r k b c)
  unfolding product_by
  product-xor-l zero a b c = refl
  product-xor-l (suc k) a b c =
      ap₂ bit_xor (times-bit (c % 2) a b (mod-lt c two_pos))
      (ap (times_x d r) (product-xor-l k a b (c / 2))
      ∙ times_x-xor (product_by d r k a (c / 2)) (product_by d r k b (c / 2)))
      ∙ swap_mid (c % 2 * a) (c % 2 * b) (times_x d r (product_by d r k a (c / 2))) (times_x d r (product_by d r k b (c / 2)))

  -- a bit goes through what is linear
  bit-times_x : (u a : ℕ) → u < 2 → times_x d r (u * a) ≡ u * times_x d r a
  bit-times_x zero a h = ap (times_x d r) (zero-mul a) ∙ times_x-zero ∙ sym (zero-mul (times_x d r a))
  bit-times_x (suc zero) a h = ap (times_x d r) (one-mul a) ∙ sym (one-mul (times_x d r a))
  bit-times_x (suc (suc u)) a h = absurd (not-suc-le-zero (le_of_suc-le-suc (le_of_suc-le-suc h)))

  pub zero_product : (k b : ℕ) → product_by d r k 0 b ≡ 0
  unfolding product_by
  zero_product zero b = refl
  zero_product (suc k) b = ap₂ bit_xor (mul-zero (b % 2)) (ap (times_x d r) (zero_product k (b / 2)) ∙ times_x-zero)

  bit-l : (k u a b : ℕ) → u < 2 → product_by d r k (u * a) b ≡ u * product_by d r k a b
  bit-l k zero a b h = ap (λ x. product_by d r k x b) (zero-mul a) ∙ zero_product k b ∙ sym (zero-mul (product_by d r k a b))
  bit-l k (suc zero) a b h = ap (λ x. product_by d r k x b) (one-mul a) ∙ sym (one-mul (product_by d r k a b))
  bit-l k (suc (suc u)) a b h = absurd (not-suc-le-zero (le_of_suc-le-suc (le_of_suc-le-suc h)))

  -- x · goes through a product
  product-times_x : (k a b : ℕ) → product_by d r k (times_x d r a) b ≡ times_x d r (product_by d r k a b)
  unfolding product_by
  product-times_x zero a b = sym times_x-zero
  product-times_x (suc k) a b =
      ap₂ bit_xor (sym (bit-times_x (b % 2) a (mod-lt b two_pos))) (ap (times_x d r) (product-times_x k a (b / 2)))
      ∙ sym (times_x-xor (b % 2 * a) (times_x d r (product_by d r k a (b / 2))))

  -- two factors on the right change places
  pub product-swap : (k j a b c : ℕ) → product_by d r k (product_by d r j a b) c ≡ product_by d r j (product_by d r k a c) b
  unfolding product_by
  product-swap zero j a b c = sym (zero_product j b)
  product-swap (suc k) j a b c =
      ap₂ bit_xor (sym (bit-l j (c % 2) a b (mod-lt c two_pos)))
      (ap (times_x d r) (product-swap k j a b (c / 2)) ∙ sym (product-times_x j (product_by d r k a (c / 2)) b))
      ∙ sym (product-xor-l j (c % 2 * a) (times_x d r (product_by d r k a (c / 2))) b)

  -- 1 · a
  times_x-small : (a : ℕ) → a * 2 < 2 ^ d → times_x d r a ≡ a * 2
  unfolding times_x
  times_x-small a h =
      ap₂ bit_xor (mod-eq_of_lt h) (ap (λ t. t % 2 * r) (div-eq_of_lt h) ∙ zero-mul r) ∙ xor_zero_r (a * 2)

  pub one_product : (k a : ℕ) → k ≤ d → a < 2 ^ k → product_by d r k 1 a ≡ a
  unfolding product_by
  one_product zero a hk h = sym (lt-one h)
  one_product (suc k) a hk h =
      let p : a < 2 ^ k * 2 = subst (λ n. a < n) (pow-suc 2 k) h in
      let q : 2 ^ suc k ≤ 2 ^ d = pow_mono hk in
      let e : 2 ^ suc k ≡ 2 ^ k * 2 = pow-suc 2 k in
      let half : a / 2 < 2 ^ k = omega arith in
      let fits : a / 2 * 2 < 2 ^ d = omega arith in
      ap₂ bit_xor (mul-one (a % 2)) (ap (times_x d r) (one_product k (a / 2) (omega arith) half) ∙ times_x-small (a / 2) fits)
      ∙ xor_comm (a % 2) (a / 2 * 2) ∙ xor_shifted (a / 2) 1 (a % 2) (mod-lt a two_pos) ∙ div-add-mod' a 2

  pub product_one : (k a : ℕ) → product_by d r (suc k) a 1 ≡ a
  unfolding product_by
  product_one k a = ap₂ bit_xor (one-mul a) (ap (times_x d r) (product-zero k a) ∙ times_x-zero) ∙ xor_zero_r a

  -- ---- the laws, of numbers below 2 ^ d
  pub product_comm : (a b : ℕ) → a < 2 ^ d → b < 2 ^ d → product_by d r d a b ≡ product_by d r d b a
  product_comm a b ha hb =
      ap (λ x. product_by d r d x b) (sym (one_product d a (le_refl d) ha))
      ∙ product-swap d d 1 a b
      ∙ ap (λ x. product_by d r d x a) (one_product d b (le_refl d) hb)

  pub times_x-lt : r < 2 ^ d → (a : ℕ) → times_x d r a < 2 ^ d
  unfolding times_x
  times_x-lt hr a = xor_lt d (a * 2 % 2 ^ d) (a * 2 / 2 ^ d % 2 * r) (mod-lt (a * 2) (pow_pos d)) (bit-lt (a * 2 / 2 ^ d % 2) r (2 ^ d) (mod-lt (a * 2 / 2 ^ d) two_pos) hr)

  pub product_lt : r < 2 ^ d → (k a b : ℕ) → a < 2 ^ d → product_by d r k a b < 2 ^ d
  unfolding product_by
  product_lt hr zero a b h = pow_pos d
  product_lt hr (suc k) a b h =
      xor_lt d (b % 2 * a) (times_x d r (product_by d r k a (b / 2))) (bit-lt (b % 2) a (2 ^ d) (mod-lt b two_pos) h) (times_x-lt hr (product_by d r k a (b / 2)))

  pub product_assoc : r < 2 ^ d → (a b c : ℕ) → a < 2 ^ d → b < 2 ^ d → c < 2 ^ d
      → product_by d r d (product_by d r d a b) c ≡ product_by d r d a (product_by d r d b c)
  product_assoc hr a b c ha hb hc =
      ap (λ x. product_by d r d x c) (product_comm a b ha hb)
      ∙ product-swap d d b a c
      ∙ product_comm (product_by d r d b c) a (product_lt hr d b c hb) ha

  -- a loop from the highest bit down: the product by the bits at i and above, and then by the bit at i - 1 too
  pub one-more-bit : (n a b acc i : ℕ) → 0 < i → i ≤ n → acc ≡ product_by d r (n - i) a (b / 2 ^ i)
      → bit_xor (b / 2 ^ (i - 1) % 2 * a) (times_x d r acc) ≡ product_by d r (n - (i - 1)) a (b / 2 ^ (i - 1))
  unfolding product_by
  one-more-bit n a b acc i h k e =
      let up : i - 1 + 1 ≡ i = omega arith in
      let more : n - (i - 1) ≡ suc (n - i) = omega arith in
      let half : b / 2 ^ (i - 1) / 2 ≡ b / 2 ^ i = shr-shr b (i - 1) 1 ∙ ap (λ m. b / 2 ^ m) up in
      ap (λ x. bit_xor (b / 2 ^ (i - 1) % 2 * a) (times_x d r x)) (e ∙ ap (product_by d r (n - i) a) (sym half))
      ∙ ap (λ m. product_by d r m a (b / 2 ^ (i - 1))) (sym more)
