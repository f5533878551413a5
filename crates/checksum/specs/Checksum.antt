-- The checksum of a card's words.
use Rattle.std.specs.Prelude.{◌≡◌, ℕ, ◌+◌, ◌≤◌, Bool, false, cond, List, [], ◌∷◌, ◌++◌, map, length, codes, ◌==◌}
use Rattle.std.specs.Str.{bytes_eq}
use Rattle.field.specs.declared.gf1024.Gf1024.{Gf1024}
use Rattle.field.specs.Gf1024.{element, sum, product}
use Rattle.checksum.specs.declared.Remainder.{Remainder}
use Rattle.checksum.specs.Values.{values}
use Rattle.field.specs.Polynomial.{times_root, plus_constant, remainder}

-- the customization string, as bytes
abbrev pub customization : Bool → List ℕ
customization extendable = cond extendable (codes "shamir_extendable") (codes "shamir")

-- the polynomial of a card: 1, the customization string and the words, the highest coefficient first
abbrev pub coefficients : Bool → List ℕ → List Gf1024
coefficients extendable words = map element (1 ∷ (customization extendable ++ words))

-- (x - r)·q
abbrev pub times_root_at : ℕ → List Gf1024 → List Gf1024
times_root_at r q = times_root (element 0) sum product (element r) q

-- (x - a)·(x - a^2)·(x - a^3)·q, where a = 2
abbrev pub times_generator : List Gf1024 → List Gf1024
times_generator q = times_root_at 2 (times_root_at 4 (times_root_at 8 q))

-- what division by (x - a)·(x - a^2)·(x - a^3) leaves
abbrev pub remainder_of : List Gf1024 → List Gf1024
remainder_of cs = remainder sum product (times_generator (element 1 ∷ [])) cs

-- the coefficients of a remainder, the highest first
abbrev pub left : Remainder → List Gf1024
left remainder = remainder.high ∷ remainder.middle ∷ remainder.low ∷ []

-- whether the remainder is 1: its three coefficients are 0, 0 and 1
abbrev pub is_right : Bool → List ℕ → Bool
is_right extendable words = bytes_eq (values (remainder_of (coefficients extendable words))) (0 ∷ 0 ∷ 1 ∷ [])

-- the polynomial is (x - a)·(x - a^2)·(x - a^3)·q + 1 for some q
abbrev pub Right : Bool → List ℕ → Type 0
Right extendable words = (q : List Gf1024) × (coefficients extendable words ≡ plus_constant sum (element 1) (times_generator q))

-- the check words for the coefficients 1 and then these: the remainder of these and three zeros, plus 1
abbrev pub check_words_of : List ℕ → List ℕ
check_words_of numbers = values (plus_constant sum (element 1) (remainder_of (map element (1 ∷ (numbers ++ (0 ∷ 0 ∷ 0 ∷ []))))))

-- in how many places two lists differ
abbrev pub differing : List ℕ → List ℕ → ℕ
differing [] vs = 0
differing (w ∷ ws) [] = 0
differing (w ∷ ws) (v ∷ vs) = cond (w == v) 0 1 + differing ws vs

abbrev pub differences : List Gf1024 → List Gf1024 → ℕ
differences ws vs = differing (values ws) (values vs)

-- under the same flag no other list of as many words, at most 59, that differs from these in one to three places is right
abbrev pub Detects : Bool → List Gf1024 → Type 0
Detects extendable words =
    (others : List Gf1024) → length others ≡ length words → length words ≤ 59 → 1 ≤ differences words others → differences words others ≤ 3
    → is_right extendable (values others) ≡ false
