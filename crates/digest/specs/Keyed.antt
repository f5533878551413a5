-- What a keyed digest answers, and what it leaves in the spaces lent to it.
use Rattle.std.specs.Prelude.{ℕ, zero, suc, ◌<◌, Bool, cond, ◌||◌, List, [], ◌∷◌, ◌++◌, length, drop, Ok, Err, Result, bit_xor, nat_lt}
use Rattle.std.specs.List.{AllByRecursion}
use Rattle.refusal.specs.declared.layers.Layer.TheVariants as layer
use Rattle.refusal.specs.declared.Refusal.{Refusal}
use Rattle.refusal.specs.declared.Refusal.TheVariants.{InputTooLong, SpaceTooShort}

-- each is a byte
abbrev pub Bytes : List ℕ → Type 0
Bytes xs = AllByRecursion (λ x. x < 256) xs

-- a key and a message have at most 65,536 bytes
abbrev pub too_long : List ℕ → Bool
too_long input = nat_lt 65536 (length input)

abbrev pub too_short : List ℕ → ℕ → Bool
too_short space size = nat_lt (length space) size

-- what the check of an input answers, and that of a space for so many bytes
abbrev pub input_answer : List ℕ → Result (Unit {0}) Refusal
input_answer input = cond (too_long input) (Err InputTooLong) (Ok tt)

abbrev pub space_answer : List ℕ → ℕ → Result (Unit {0}) Refusal
space_answer space wanted = cond (too_short space wanted) (Err (SpaceTooShort layer.Digest wanted)) (Ok tt)

-- long input is refused first, then a short space; else the count of the bytes written is answered
abbrev pub answer_of : Bool → Bool → ℕ → Result ℕ Refusal
answer_of long short size = cond long (Err InputTooLong) (cond short (Err (SpaceTooShort layer.Digest size)) (Ok size))

-- what a digest of so many bytes answers
abbrev pub digest_answer : ℕ → List ℕ → List ℕ → List ℕ → Result ℕ Refusal
digest_answer size key message space = answer_of (too_long key || too_long message) (too_short space size) size

-- what a space holds after an answer: the result, then what it held; after a refusal what it held
abbrev pub written : Result ℕ Refusal → List ℕ → List ℕ → List ℕ
written (Ok count) result space = result ++ drop count space
written (Err refusal) result space = space

-- the exclusive or, byte by byte; as long as the first
abbrev pub xors : List ℕ → List ℕ → List ℕ
xors [] ys = []
xors (x ∷ xs) [] = x ∷ xs
xors (x ∷ xs) (y ∷ ys) = bit_xor x y ∷ xors xs ys

-- the last of n further digests, each of the one before it; f is the digest under one key
unfoldable pub last_link : (List ℕ → List ℕ) → List ℕ → ℕ → List ℕ
last_link f link zero = link
last_link f link (suc n) = f (last_link f link n)

-- the exclusive or of a total and all these digests
unfoldable pub chain_total : (List ℕ → List ℕ) → List ℕ → List ℕ → ℕ → List ℕ
chain_total f link total zero = total
chain_total f link total (suc n) = xors (chain_total f link total n) (last_link f link (suc n))

-- what a chain of digests answers, given a space for the link and one for the total
abbrev pub chain_answer : ℕ → List ℕ → List ℕ → List ℕ → Result ℕ Refusal
chain_answer size key link total = answer_of (too_long key) (too_short link size || too_short total size) size
