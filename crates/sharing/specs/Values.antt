-- The values that go with given shares, by interpolation at each byte position, and those that a dealer hands out.
use Rattle.std.specs.Prelude.{◌≡◌, ℕ, ◌+◌, ◌-◌, ◌*◌, ◌<◌, ◌≤◌, cond, List, [], ◌∷◌, ◌++◌, map, length, take, drop, All, Result, MatchResult, nat_le, slice_index, ◌≢◌}
use Rattle.std.specs.List.{range_with_len}
use Rattle.field.specs.declared.gf256.Gf256.{Gf256}
use Rattle.field.specs.declared.interpolation.point.Point.{Point}
use Rattle.field.specs.Gf256.{element, sum, product, inverse}
use Rattle.field.specs.Interpolation.{lagrange, Distinct}
use Rattle.digest.specs.Keyed.{Bytes}
use Rattle.sharing.specs.Curves.{Share, Curve, On, OnCurve}
use Rattle.sharing.specs.declared.share.Share.{Share as Lent}
use Rattle.sharing.specs.declared.sound.SharesFault.{SharesFault}
use Rattle.sharing.specs.declared.sound.SharesFault.TheVariants.{TooMany, LongValue, OtherLength, SamePlace}
use Rattle.sharing.specs.declared.curve.NoSecret.{NoSecret}
use Rattle.sharing.specs.declared.curve.NoSecret.TheVariants.{Unsound, TooFew, NoCurve}
use Rattle.sharing.specs.declared.dealing.NotDealt.{NotDealt}
use Rattle.sharing.specs.declared.dealing.NotDealt.TheVariants.{SecretLength, DrawnLength, WorkTooShort, ValueLength}

-- a share whose value is lent
abbrev pub lent : Lent → Share
lent s = record { x = s.x; value = s.value.now }

abbrev pub plain : List Lent → List Share
plain shares = map lent shares

-- each share has a value of n bytes
abbrev pub SameLengths : ℕ → List Lent → Type 0
SameLengths n shares = All (λ s. length s.value.now ≡ n) shares

-- at most 16 shares at distinct places, with values of n bytes each, and n at most 64
pub record Sound (n : ℕ) (shares : List Lent) : Type 0 where
  pub few : length shares ≤ 16
  pub short : n ≤ 64
  pub lengths : SameLengths n shares
  pub distinct : Distinct (map (λ s. s.x) shares)

-- what is wrong with shares that are not sound: the first of these
abbrev pub FaultOf : ℕ → List Lent → SharesFault → Type 0
FaultOf n shares TooMany = 16 < length shares
FaultOf n shares LongValue = (length shares ≤ 16) × (64 < n)
FaultOf n shares OtherLength = (length shares ≤ 16) × (n ≤ 64) × (SameLengths n shares → ⊥)
FaultOf n shares SamePlace = (length shares ≤ 16) × (n ≤ 64) × SameLengths n shares × (Distinct (map (λ s. s.x) shares) → ⊥)

-- the point at byte position j
abbrev pub point_at : ℕ → Share → Point Gf256
point_at j s = record { x = element s.x; y = element (slice_index s.value j) }

abbrev pub points_at : ℕ → List Share → List (Point Gf256)
points_at j shares = map (point_at j) shares

-- the byte at position j of the value at x
unfoldable pub byte_through : List Share → ℕ → ℕ → ℕ
byte_through shares x j = (lagrange (element 0) (element 1) sum product inverse (element x) (points_at j shares)).value

-- the value of n bytes at x, on the polynomials through the shares
abbrev pub value_through : ℕ → List Share → ℕ → List ℕ
value_through n shares x = map (byte_through shares x) (range_with_len 0 n)

-- the answer when the value at x is asked for: that it was written, or that it was not, and what is wrong with the shares
abbrev pub ValueAnswer : List Lent → ℕ → List ℕ → Result (Unit {0}) SharesFault → List ℕ → Type 0
ValueAnswer shares x before answer after =
    let n = length before in
    MatchResult answer (λ _. Sound n shares × (after ≡ value_through n (plain shares) x)) (λ fault. FaultOf n shares fault × (after ≡ before))

-- for a secret of n bytes the value at 254 is D and then R, as a curve has it there
abbrev pub Checked : (List ℕ → List ℕ → List ℕ) → ℕ → List ℕ → List ℕ → Type 0
Checked keyed n value secret = (4 ≤ n) × (take 4 value ≡ take 4 (keyed (drop 4 value) secret))

-- shares that fix the polynomials fit a secret: with two of them or more, the value at 254 holds its digest
abbrev pub SecretFits : (List ℕ → List ℕ → List ℕ) → ℕ → List Lent → List ℕ → Type 0
SecretFits keyed n fixing secret = 2 ≤ length fixing → Checked keyed n (value_through n (plain fixing) 254) secret

-- and the others lie on the polynomials
abbrev pub AllFit : (List ℕ → List ℕ → List ℕ) → ℕ → List Lent → List Lent → List ℕ → Type 0
AllFit keyed n fixing others secret = All (λ s. value_through n (plain fixing) s.x ≡ s.value.now) others × SecretFits keyed n fixing secret

-- why shares have no secret: the first of these
abbrev pub NoSecretOf : (List ℕ → List ℕ → List ℕ) → ℕ → ℕ → List Lent → NoSecret → Type 0
NoSecretOf keyed t n shares (Unsound fault) = FaultOf n shares fault
NoSecretOf keyed t n shares TooFew = Sound n shares × (length shares < t)
NoSecretOf keyed t n shares NoCurve = Sound n shares × (t ≤ length shares) × ((secret : List ℕ) → OnCurve keyed t secret (plain shares) → ⊥)

-- the answer when the secret of t shares or more is asked for: that they lie on a curve of threshold t for the secret that was written,
-- or why they do not, and that nothing was written
abbrev pub SecretAnswer : (List ℕ → List ℕ → List ℕ) → ℕ → List Lent → List ℕ → Result (Unit {0}) NoSecret → List ℕ → Type 0
SecretAnswer keyed t shares before answer after =
    let n = length before in
    MatchResult answer
    (λ _. Sound n shares × (t ≤ length shares) × OnCurve keyed t after (plain shares))
    (λ fault. NoSecretOf keyed t n shares fault × (after ≡ before))

-- ---- dealing
-- shares whose values stand one after the other, n bytes each
abbrev pub shares_of : ℕ → List ℕ → List ℕ → List Share
shares_of n [] values = []
shares_of n (x ∷ xs) values = record { x = x; value = take n values } ∷ shares_of n xs (drop n values)

-- what a dealer draws for a curve of threshold t and a secret of n bytes: t - 2 values, then R
abbrev pub drawn_length : ℕ → ℕ → ℕ
drawn_length t n = cond (nat_le t 1) 0 ((t - 2) * n + (n - 4))

-- the shares that fix the curve: the values drawn, at the places from 0; D and R; the secret
abbrev pub chosen_shares : (List ℕ → List ℕ → List ℕ) → ℕ → List ℕ → List ℕ → List Share
chosen_shares keyed t secret drawn =
    let n = length secret in
    let r = drop ((t - 2) * n) drawn in
    shares_of n (range_with_len 0 (t - 2)) drawn
    ++ (record { x = 254; value = take 4 (keyed r secret) ++ r } ∷ record { x = 255; value = secret } ∷ [])

-- the value at x of the curve of threshold t for the secret that the drawn bytes fix
abbrev pub dealt_value : (List ℕ → List ℕ → List ℕ) → ℕ → List ℕ → List ℕ → ℕ → List ℕ
dealt_value keyed t secret drawn x = cond (nat_le t 1) secret (value_through (length secret) (chosen_shares keyed t secret drawn) x)

-- enough is given to deal: a secret of 4 to 64 bytes, what is drawn for it, and spaces for the chosen values and for the one asked for
pub record Dealable (t : ℕ) (secret drawn work value : List ℕ) : Type 0 where
  pub long : 4 ≤ length secret
  pub short : length secret ≤ 64
  pub exact : length drawn ≡ drawn_length t (length secret)
  pub room : t * length secret ≤ length work
  pub fits : length value ≡ length secret

-- why a value is not dealt: the first of these
abbrev pub NotDealtOf : ℕ → List ℕ → List ℕ → List ℕ → List ℕ → NotDealt → Type 0
NotDealtOf t secret drawn work value SecretLength = 4 ≤ length secret → 64 < length secret
NotDealtOf t secret drawn work value DrawnLength = (4 ≤ length secret) × (length secret ≤ 64) × (length drawn ≢ drawn_length t (length secret))
NotDealtOf t secret drawn work value WorkTooShort =
    (4 ≤ length secret) × (length secret ≤ 64) × (length drawn ≡ drawn_length t (length secret)) × (length work < t * length secret)
NotDealtOf t secret drawn work value ValueLength =
    (4 ≤ length secret) × (length secret ≤ 64) × (length drawn ≡ drawn_length t (length secret)) × (t * length secret ≤ length work) × (length value ≢ length secret)

-- the answer when the value at x is dealt: that it was written, or that it was not, and why
abbrev pub DealAnswer : (List ℕ → List ℕ → List ℕ) → ℕ → List ℕ → List ℕ → ℕ → List ℕ → List ℕ → Result (Unit {0}) NotDealt → List ℕ → Type 0
DealAnswer keyed t secret drawn x work before answer after =
    MatchResult answer
    (λ _. Dealable t secret drawn work before × (after ≡ dealt_value keyed t secret drawn x))
    (λ why. NotDealtOf t secret drawn work before why × (after ≡ before))

-- these values are a curve for the secret, and those at the first places are the values drawn
abbrev pub DealtCurve : (List ℕ → List ℕ → List ℕ) → Type 0
DealtCurve keyed =
    (t : ℕ) (secret drawn : List ℕ) → 1 ≤ t → t ≤ 256 → Bytes secret → 4 ≤ length secret → Bytes drawn → length drawn ≡ drawn_length t (length secret)
    → Curve keyed t secret (dealt_value keyed t secret drawn)
    × On (dealt_value keyed t secret drawn) (shares_of (length secret) (range_with_len 0 (t - 2)) drawn)
