-- The laws of a field in which each element is its own negative.
use Rattle.std.specs.Prelude.{◌≡◌, Some, None, Option, ◌≢◌}

pub record Laws {F : Type 0} (zero one : F) (sum product : F → F → F) (inverse : F → Option F) : Type 0 where
  pub sum_comm : (a b : F) → sum a b ≡ sum b a
  pub sum_assoc : (a b c : F) → sum (sum a b) c ≡ sum a (sum b c)
  pub sum_zero : (a : F) → sum a zero ≡ a
  pub sum_self : (a : F) → sum a a ≡ zero
  pub product_comm : (a b : F) → product a b ≡ product b a
  pub product_assoc : (a b c : F) → product (product a b) c ≡ product a (product b c)
  pub product_one : (a : F) → product a one ≡ a
  pub distributes : (a b c : F) → product a (sum b c) ≡ sum (product a b) (product a c)
  pub inverse_zero : inverse zero ≡ None
  pub inverse_other : (a : F) → (a ≢ zero) → (b : F) × ((inverse a ≡ Some b) × (product a b ≡ one))
