-- Polynomials over two values modulo x^d + r obey the laws of a field, where each but 0 has the inverse a^(2^d - 2).
use Rattle.std.specs.Prelude.{◌≡◌, ℕ, zero, suc, ◌-◌, ◌^◌, ◌<◌, Bool, true, false, cond, Some, None, Option, ◌==◌, ◌≢◌, bit_xor, nat_eq}
use Rattle.std.proofs.Common.{sym, ap, ap₂, subst, ◌∙◌, pow_pos, ne_eqb, le_of_suc-le-suc, not-suc-le-zero}
use Rattle.std.proofs.lemmas.Bool.{eqb-true, agree_below, agree_below_at}
use Rattle.std.specs.Int.Bits.{xor_assoc, xor_self, xor_zero_r}
use Rattle.std.proofs.lemmas.Nat.{xor_comm, xor_lt}
use Rattle.field.specs.CarryLess as Numbers
use Rattle.field.specs.CarryLess.{product_modulo, product_by, times_squares, IsRepresentedBySquares}
use Rattle.field.specs.Laws.{Laws}
use Rattle.field.specs.CarryLessRing as Ring

pub times_squares-lt : (d r : ℕ) → r < 2 ^ d → (k a p : ℕ) → p < 2 ^ d → times_squares d r k a p < 2 ^ d
unfolding times_squares
times_squares-lt d r hr zero a p h = h
times_squares-lt d r hr (suc k) a p h =
    times_squares-lt d r hr k (product_modulo d r a a) (product_modulo d r p (product_modulo d r a a)) (Ring.product_lt d r hr d p (product_modulo d r a a) h)

-- a number other than 0 times its power by k squares is 1, as a test
unfoldable pub inverts_by_squares : ℕ → ℕ → ℕ → ℕ → Bool
inverts_by_squares d r k a = cond (a == 0) true (product_modulo d r a (times_squares d r k a 1) == 1)

-- a number other than 0 times its inverse is 1, as a test
unfoldable pub inverts : ℕ → ℕ → ℕ → Bool
inverts d r = inverts_by_squares d r (d - 1)

pub times_by_squares : (d r k : ℕ) → agree_below (inverts_by_squares d r k) (λ _. true) (2 ^ d) ≡ true → (a : ℕ) → a < 2 ^ d → (a == 0) ≡ false
    → product_modulo d r a (times_squares d r k a 1) ≡ 1
unfolding inverts_by_squares
times_by_squares d r k all-invert a h z =
    let times : ℕ = product_modulo d r a (times_squares d r k a 1) in
    eqb-true times 1 (subst (λ b. cond b true (times == 1) ≡ true) z (agree_below_at (inverts_by_squares d r k) (λ _. true) (2 ^ d) a all-invert h))

pub times-inverted : (d r : ℕ) → agree_below (inverts d r) (λ _. true) (2 ^ d) ≡ true → (a : ℕ) → a < 2 ^ d → (a == 0) ≡ false
    → product_modulo d r a (Numbers.inverted d r a) ≡ 1
unfolding inverts
times-inverted d r = times_by_squares d r (d - 1)

times-one : (d r a : ℕ) → 1 < 2 ^ d → product_modulo d r a 1 ≡ a
times-one zero r a h = absurd (not-suc-le-zero (le_of_suc-le-suc h))
times-one (suc e) r a h = Ring.product_one (suc e) r e a

-- for inverses by any number of squares
module _ {F : Type 0} {d r k : ℕ} {element : ℕ → F} {bits : F → ℕ} (law : IsRepresentedBySquares d r k element bits) where
  abbrev times : ℕ → ℕ → ℕ
  times = product_modulo d r

  abbrev inverted : ℕ → ℕ
  inverted a = times_squares d r k a 1

  abbrev sum : F → F → F
  sum = Numbers.sum element bits

  abbrev product : F → F → F
  product = Numbers.product d r element bits

  abbrev inverse : F → Option F
  inverse a = cond (bits a == 0) None (Some (element (inverted (bits a))))

  -- an element is its bits
  pub same : (a b : F) → bits a ≡ bits b → a ≡ b
  same a b e = sym (law.element-bits a) ∙ ap element e ∙ law.element-bits b

  -- ---- the bits of the operations
  pub sum-lt : (a b : F) → bit_xor (bits a) (bits b) < 2 ^ d
  sum-lt a b = xor_lt d (bits a) (bits b) (law.bits-lt a) (law.bits-lt b)

  pub product-lt : (a b : F) → times (bits a) (bits b) < 2 ^ d
  product-lt a b = Ring.product_lt d r law.rest-lt d (bits a) (bits b) (law.bits-lt a)

  pub inverted-lt : (a : ℕ) → inverted a < 2 ^ d
  inverted-lt a = times_squares-lt d r law.rest-lt k a 1 law.one-lt

  pub sum-value : (a b : F) → bits (sum a b) ≡ bit_xor (bits a) (bits b)
  sum-value a b = law.bits-element _ (sum-lt a b)

  pub product_value : (a b : F) → bits (product a b) ≡ times (bits a) (bits b)
  product_value a b = law.bits-element _ (product-lt a b)

  -- ---- the laws with three elements, and the inverse
  sum_assoc : (a b c : F) → sum (sum a b) c ≡ sum a (sum b c)
  sum_assoc a b c =
      ap element
      (ap (λ n. bit_xor n (bits c)) (sum-value a b) ∙ xor_assoc (bits a) (bits b) (bits c) ∙ ap (bit_xor (bits a)) (sym (sum-value b c)))

  product_assoc : (a b c : F) → product (product a b) c ≡ product a (product b c)
  product_assoc a b c =
      ap element
      (ap (λ n. times n (bits c)) (product_value a b)
      ∙ Ring.product_assoc d r law.rest-lt (bits a) (bits b) (bits c) (law.bits-lt a) (law.bits-lt b) (law.bits-lt c)
      ∙ ap (times (bits a)) (sym (product_value b c)))

  distributes : (a b c : F) → product a (sum b c) ≡ sum (product a b) (product a c)
  distributes a b c =
      ap element
      (ap (times (bits a)) (sum-value b c) ∙ Ring.product-xor-r d r d (bits a) (bits b) (bits c)
      ∙ ap₂ bit_xor (sym (product_value a b)) (sym (product_value a c)))

  other_than_zero : (a : F) → (a ≢ element 0) → (bits a == 0) ≡ false
  other_than_zero a other = ne_eqb (bits a) 0 (λ z. other (sym (law.element-bits a) ∙ ap element z))

  times-inverse : (a : F) → (bits a == 0) ≡ false → product a (element (inverted (bits a))) ≡ element 1
  times-inverse a z =
      ap (λ n. element (times (bits a) n)) (law.bits-element _ (inverted-lt (bits a)))
      ∙ ap element (law.times-inverted (bits a) (law.bits-lt a) z)

  pub laws : Laws (element 0) (element 1) sum product inverse
  laws = record {
    sum_comm = λ a b. ap element (xor_comm (bits a) (bits b));
    sum_assoc = sum_assoc;
    sum_zero = λ a. ap (λ n. element (bit_xor (bits a) n)) (law.bits-element 0 (pow_pos d)) ∙ ap element (xor_zero_r (bits a)) ∙ law.element-bits a;
    sum_self = λ a. ap element (xor_self (bits a));
    product_comm = λ a b. ap element (Ring.product_comm d r (bits a) (bits b) (law.bits-lt a) (law.bits-lt b));
    product_assoc = product_assoc;
    product_one = λ a.
        ap (λ n. element (times (bits a) n)) (law.bits-element 1 law.one-lt) ∙ ap element (times-one d r (bits a) law.one-lt) ∙ law.element-bits a;
    distributes = distributes;
    inverse_zero = ap (λ n. cond (n == 0) None (Some (element (inverted n)))) (law.bits-element 0 (pow_pos d));
    inverse_other = λ a other.
        let z : nat_eq (bits a) 0 ≡ false = other_than_zero a other in
        (element (inverted (bits a)), (ap (λ b. cond b None (Some (element (inverted (bits a))))) z, times-inverse a z));
  }

-- where a test of each number says that the power by k squares is its inverse
module _ (d r k : ℕ) (small : r < 2 ^ d) (big : 1 < 2 ^ d) (all-invert : agree_below (inverts_by_squares d r k) (λ _. true) (2 ^ d) ≡ true)
    {F : Type 0} (element : ℕ → F) (bits : F → ℕ) (bits-lt : (a : F) → bits a < 2 ^ d)
    (bits-element : (n : ℕ) → n < 2 ^ d → bits (element n) ≡ n) (element-bits : (a : F) → element (bits a) ≡ a) where
  pub represented_by_squares : IsRepresentedBySquares d r k element bits
  represented_by_squares = record {
    rest-lt = small;
    one-lt = big;
    bits-lt = bits-lt;
    bits-element = bits-element;
    element-bits = element-bits;
    times-inverted = times_by_squares d r k all-invert;
  }

  pub laws_by_squares : Laws (element 0) (element 1) (Numbers.sum element bits) (Numbers.product d r element bits)
      (λ a. cond (bits a == 0) None (Some (element (times_squares d r k (bits a) 1))))
  laws_by_squares = laws represented_by_squares
