-- Byte order: that it is an order, and how it goes with what words begin with.
use Rattle.std.specs.Prelude.{◌≡◌, ℕ, zero, suc, true, false, List, [], ◌∷◌, take, refl}
use Rattle.std.proofs.Common.{arith}
use Rattle.std.proofs.lemmas.Bool.Decides.{nat_tests}
use Rattle.lexicon.specs.ByteOrder.{comes_before}
use Rattle.lexicon.specs.Lexicon.{begins_with}

pub irreflexive : (word : List ℕ) → comes_before word word ≡ false
irreflexive [] = refl
irreflexive (w ∷ word) = grind (arith, nat_tests, irreflexive word)

pub transitive : (a b c : List ℕ) → comes_before a b ≡ true → comes_before b c ≡ true → comes_before a c ≡ true
transitive a [] [] p q = grind arith
transitive a (y ∷ b) [] p q = grind arith
transitive [] b (z ∷ c) p q = refl
transitive (x ∷ a) [] (z ∷ c) p q = grind arith
transitive (x ∷ a) (y ∷ b) (z ∷ c) p q = grind (arith, nat_tests, transitive a b c)

-- ---- what words begin with
begins_none : (word : List ℕ) → begins_with word [] ≡ true
begins_none [] = refl
begins_none (w ∷ word) = refl

-- bytes do not come after a word that they begin
pub begun_not_before : (word bytes : List ℕ) → begins_with word bytes ≡ true → comes_before word bytes ≡ false
begun_not_before [] [] e = refl
begun_not_before [] (b ∷ bytes) e = grind arith
begun_not_before (w ∷ word) [] e = refl
begun_not_before (w ∷ word) (b ∷ bytes) e = grind (arith, nat_tests, begun_not_before word bytes)

-- between bytes and a word that they begin, they begin every word
pub begun_between : (word later bytes : List ℕ) → comes_before word bytes ≡ false → comes_before word later ≡ true → begins_with later bytes ≡ true → begins_with word bytes ≡ true
begun_between word later [] n p e = begins_none word
begun_between [] later (b ∷ bytes) n p e = grind arith
begun_between (w ∷ word) [] (b ∷ bytes) n p e = grind arith
begun_between (w ∷ word) (x ∷ later) (b ∷ bytes) n p e = grind (arith, nat_tests, begun_between word later bytes)

-- words that differ within their first n bytes come in the order of these bytes
pub first_before : (n : ℕ) (word later : List ℕ) → comes_before word later ≡ true → begins_with later (take n word) ≡ false → comes_before (take n word) (take n later) ≡ true
first_before zero word later p d = grind (arith, begins_none later)
first_before (suc n) [] later p d = grind (arith, begins_none later)
first_before (suc n) (w ∷ word) [] p d = grind arith
first_before (suc n) (w ∷ word) (x ∷ later) p d = grind (arith, nat_tests, first_before n word later)

pub before_first : (n : ℕ) (word later : List ℕ) → comes_before (take n word) (take n later) ≡ true → comes_before word later ≡ true
before_first zero word later p = grind arith
before_first (suc n) [] [] p = grind arith
before_first (suc n) (w ∷ word) [] p = grind arith
before_first (suc n) [] (x ∷ later) p = refl
before_first (suc n) (w ∷ word) (x ∷ later) p = grind (arith, nat_tests, before_first n word later)
