-- Interpolation by Lagrange's formula, in a field where a difference is a sum.
use Rattle.std.specs.Prelude.{◌≡◌, List, [], ◌∷◌, ◌++◌, map, length, Some, None, Option, MatchOption, ◌≢◌}
use Rattle.std.specs.List.{AllByRecursion}
use Rattle.field.specs.declared.interpolation.point.Point.{Point}
use Rattle.field.specs.Polynomial.{value_at}

-- x is none of these
abbrev pub Absent : {A : Type 0} → A → List A → Type 0
Absent x xs = AllByRecursion (λ y. y ≢ x) xs

-- no two are equal
abbrev pub Distinct : {A : Type 0} → List A → Type 0
Distinct [] = Unit {0}
Distinct (x ∷ xs) = Absent x xs × Distinct xs

abbrev pub xs_of : {F : Type 0} → List (Point F) → List F
xs_of points = map (λ p. p.x) points

abbrev pub value_or : {A : Type 0} → A → Option A → A
value_or other None = other
value_or other (Some a) = a

module _ {F : Type 0} (zeroF oneF : F) (sum product : F → F → F) (inverse : F → Option F) where
  -- a / b, where b is not 0
  abbrev pub quotient : F → F → F
  quotient a b = product a (value_or zeroF (inverse b))

  -- the product, over these xj, of (x - xj) / (xi - xj)
  abbrev pub quotients : F → F → List F → F
  quotients x xi [] = oneF
  quotients x xi (xj ∷ xs) = product (quotient (sum x xj) (sum xi xj)) (quotients x xi xs)

  -- nothing, as xi is one of these xj, or else a times that product
  abbrev pub TimesQuotients : F → F → F → List F → Option F → Type 0
  TimesQuotients a x xi xs r = MatchOption r (Absent xi xs → ⊥) (λ v. Absent xi xs × (v ≡ product a (quotients x xi xs)))

  -- the sum, over these points, of yi times the product over the x of all others: those before, and those after
  abbrev pub lagrange_after : F → List F → List (Point F) → F
  lagrange_after x before [] = zeroF
  lagrange_after x before (p ∷ after) =
      sum (product p.y (quotients x p.x (before ++ xs_of after))) (lagrange_after x (before ++ (p.x ∷ [])) after)

  abbrev pub lagrange : F → List (Point F) → F
  lagrange x points = lagrange_after x [] points

  -- nothing, as two x are equal, or else the sum
  abbrev pub Interpolated : F → List (Point F) → Option F → Type 0
  Interpolated x points r = MatchOption r (Distinct (xs_of points) → ⊥) (λ v. Distinct (xs_of points) × (v ≡ lagrange x points))

  -- the polynomial with these coefficients, the highest first, has at each point's x the value y
  abbrev pub Through : List F → List (Point F) → Type 0
  Through coefficients points = AllByRecursion (λ p. value_at zeroF oneF sum product p.x coefficients ≡ p.y) points

  -- the only polynomial of degree below the number of points that goes through them; its values are the interpolated ones
  pub record ThePolynomial (points : List (Point F)) (coefficients : List F) : Type 0 where
    pub degree : length coefficients ≡ length points
    pub through : Through coefficients points
    pub only : (others : List F) → length others ≡ length points → Through others points → others ≡ coefficients
    pub value : (x : F) → lagrange x points ≡ value_at zeroF oneF sum product x coefficients

  -- through points with distinct x there is exactly one, and the interpolated value at x is its value
  abbrev pub OnePolynomial : F → List (Point F) → Option F → Type 0
  OnePolynomial x points r =
      Distinct (xs_of points)
      → (coefficients : List F) × ThePolynomial points coefficients × (r ≡ Some (value_at zeroF oneF sum product x coefficients))
