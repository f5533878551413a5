-- Curves: how a secret is shared out over the values at the places 0 to 255, and what some of the values say of it.
use Rattle.std.specs.Prelude.{◌≡◌, ℕ, ◌+◌, ◌-◌, ◌<◌, ◌≤◌, List, ◌++◌, map, length, take, ◌≢◌}
use Rattle.std.specs.List.{AllByRecursion}
use Rattle.field.specs.declared.gf256.Gf256.{Gf256}
use Rattle.field.specs.Gf256.{element, sum, product}
use Rattle.field.specs.Polynomial.{value_at}
use Rattle.field.specs.Interpolation.{Distinct}
use Rattle.digest.specs.Keyed.{Bytes}

-- the value at x of the polynomial over GF(256) with these coefficients, the highest first
abbrev pub byte_at : ℕ → List Gf256 → ℕ
byte_at x coefficients = (value_at (element 0) (element 1) sum product (element x) coefficients).value

-- at each of n byte positions a polynomial of degree below t gives the byte of the value at x, for each x below 256
pub record Polynomials (n t : ℕ) (value : ℕ → List ℕ) : Type 0 where
  pub coefficients : List (List Gf256)
  pub positions : length coefficients ≡ n
  pub degrees : AllByRecursion (λ cs. length cs ≡ t) coefficients
  pub values : (x : ℕ) → x < 256 → value x ≡ map (byte_at x) coefficients

-- value is a curve of threshold t for the secret, over a keyed digest
pub record Curve (keyed : List ℕ → List ℕ → List ℕ) (t : ℕ) (secret : List ℕ) (value : ℕ → List ℕ) : Type 0 where
  pub least : 1 ≤ t
  pub bytes : Bytes secret
  -- with threshold 1 every value is the secret
  pub constant : t ≡ 1 → (x : ℕ) → x < 256 → value x ≡ secret
  -- else the values are those of polynomials of degree below t,
  pub polynomials : 2 ≤ t → Polynomials (length secret) t value
  -- the value at 255 is the secret,
  pub at255 : 2 ≤ t → value 255 ≡ secret
  -- and that at 254 is D and then R: D is the first four bytes of the digest with key R and the secret as message
  pub at254 : 2 ≤ t → (r : List ℕ) × (length r ≡ length secret - 4) × (value 254 ≡ take 4 (keyed r secret) ++ r)

-- a share: a place and the value there
pub record Share : Type 0 where
  pub x : ℕ
  pub value : List ℕ

-- shares at distinct places below 256, with values of n bytes
pub record Shares (n : ℕ) (shares : List Share) : Type 0 where
  pub distinct : Distinct (map (λ s. s.x) shares)
  pub places : AllByRecursion (λ s. s.x < 256) shares
  pub lengths : AllByRecursion (λ s. length s.value ≡ n) shares
  pub bytes : AllByRecursion (λ s. Bytes s.value) shares

-- each share has the value at its place
abbrev pub On : (ℕ → List ℕ) → List Share → Type 0
On value shares = AllByRecursion (λ s. value s.x ≡ s.value) shares

-- some curve of threshold t for the secret goes through the shares
abbrev pub OnCurve : (List ℕ → List ℕ → List ℕ) → ℕ → List ℕ → List Share → Type 0
OnCurve keyed t secret shares = (value : ℕ → List ℕ) × (Curve keyed t secret value) × (On value shares)

-- ---- theorems
-- t shares or more lie on at most one curve of threshold t, and so have at most one secret
abbrev pub OneCurve : (List ℕ → List ℕ → List ℕ) → Type 0
OneCurve keyed =
    (t n : ℕ) (shares : List Share) → Shares n shares → t ≤ length shares
    → (secret another : List ℕ) (value other : ℕ → List ℕ) → Curve keyed t secret value → On value shares → Curve keyed t another other → On other shares
    → (secret ≡ another) × ((x : ℕ) → x < 256 → value x ≡ other x)

-- a secret and t - 1 shares or more at other places than 255 lie on at most one curve of threshold t
abbrev pub OneCurveOfSecret : (List ℕ → List ℕ → List ℕ) → Type 0
OneCurveOfSecret keyed =
    (t n : ℕ) (shares : List Share) → Shares n shares → AllByRecursion (λ s. s.x ≢ 255) shares → t ≤ length shares + 1
    → (secret : List ℕ) (value other : ℕ → List ℕ) → Curve keyed t secret value → On value shares → Curve keyed t secret other → On other shares
    → (x : ℕ) → x < 256 → value x ≡ other x

-- a secret and at most t - 2 shares at other places than 254 and 255 lie on some curve of threshold t
abbrev pub SomeCurve : (List ℕ → List ℕ → List ℕ) → Type 0
SomeCurve keyed =
    (t : ℕ) (secret : List ℕ) (shares : List Share) → Bytes secret → 4 ≤ length secret → Shares (length secret) shares
    → AllByRecursion (λ s. s.x < 254) shares → length shares + 2 ≤ t → OnCurve keyed t secret shares

pub record CurveLaws (keyed : List ℕ → List ℕ → List ℕ) : Type 0 where
  pub one_curve : OneCurve keyed
  pub one_curve_of_secret : OneCurveOfSecret keyed
  pub some_curve : SomeCurve keyed
