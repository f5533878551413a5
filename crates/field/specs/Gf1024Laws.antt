-- The field of 1,024 elements obeys the laws of a field.
use Rattle.std.specs.Prelude.{◌≡◌, ℕ, ◌<◌, true}
use Rattle.std.proofs.Common.{refl, mod-eq_of_lt, lit<}
use Rattle.std.proofs.lemmas.Bool.{agree_below}
use mathlib.Core.HLevel.{is_prop→PathP}
use Rattle.std.proofs.Math.Bridge.{le_prop}
use Rattle.field.specs.declared.gf1024.Gf1024.{Gf1024}
use Rattle.field.specs.CarryLess.{times_x, product_by, times_squares, IsRepresented}
use Rattle.field.specs.Gf1024.{element, bits, sum, product, inverse}
use Rattle.field.specs.Laws.{Laws}
use Rattle.field.specs.CarryLessField as CarryLessField
use Rattle.field.specs.CarryLessField.{inverts, inverts_by_squares, times-inverted}

-- an element is its value
pub same : (a b : Gf1024) → a.value ≡ b.value → a ≡ b
same a b e = λ i. record { value = e i; bound = is_prop→PathP (λ j. e j < 1024) (λ j. le_prop) a.bound b.bound i }

pub element-value : (a : Gf1024) → element a.value ≡ a
element-value a = same _ _ (mod-eq_of_lt a.bound)

pub value-element : (n : ℕ) → n < 1024 → (element n).value ≡ n
value-element n h = mod-eq_of_lt h

-- by computing it for each number
all-invert : agree_below (inverts 10 9) (λ _. true) 1024 ≡ true
unfolding inverts inverts_by_squares times_x product_by times_squares
all-invert = refl

pub represented : IsRepresented 10 9 element bits
represented = record {
  rest-lt = lit< tt;
  one-lt = lit< tt;
  bits-lt = λ a. a.bound;
  bits-element = value-element;
  element-bits = element-value;
  times-inverted = times-inverted 10 9 all-invert;
}

pub laws : Laws (element 0) (element 1) sum product inverse
laws = CarryLessField.laws represented
