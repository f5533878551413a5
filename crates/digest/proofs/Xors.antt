-- The exclusive or of lists, step by step.
use Rattle.std.proofs.Common.{◌≡◌, ℕ, zero, suc, ◌+◌, ◌<◌, ◌≤◌, min, List, [], ◌∷◌, ◌++◌, length, get_or, take, drop, set, replicate, refl, ap, ap₂, inl, inr, arith}
use lib.Bits.{bit_xor, xor_assoc, xor_zero_r}
use Rattle.std.proofs.lemmas.List.{drop_more, drop-set-lt, take_more_set, take_all, drop_all, append_assoc, append-nil, take-append-drop}
use Rattle.std.proofs.lemmas.Bool.{cases_lt}
use Rattle.digest.specs.Keyed.{xors}

pub length-xors : (xs ys : List ℕ) → length (xors xs ys) ≡ length xs
length-xors [] ys = refl
length-xors (x ∷ xs) [] = refl
length-xors (x ∷ xs) (y ∷ ys) = ap suc (length-xors xs ys)

pub xors-nil : (xs : List ℕ) → xors xs [] ≡ xs
xors-nil [] = refl
xors-nil (x ∷ xs) = refl

-- the place i of the target t is combined with that of the mask m
pub xors-more : (t m : List ℕ) (i : ℕ) → i < length t → i < length m →
    take (i + 1) (set t i (bit_xor (get_or t i 0) (get_or m i 0))) ++ xors (drop (i + 1) (set t i (bit_xor (get_or t i 0) (get_or m i 0)))) (drop (i + 1) m)
    ≡ take i t ++ xors (drop i t) (drop i m)
xors-more t m i h k =
    let v : ℕ = bit_xor (get_or t i 0) (get_or m i 0) in
    let rest : xors (drop i t) (drop i m) ≡ v ∷ xors (drop (i + 1) t) (drop (i + 1) m) = rw (drop_more t i 0 h, drop_more m i 0 k) in
    let past : drop (i + 1) (set t i v) ≡ drop (i + 1) t = drop-set-lt (i + 1) t i v (omega arith) in
    rw (take_more_set t i v h, past, rest) (append_assoc (take i t) (v ∷ []) (xors (drop (i + 1) t) (drop (i + 1) m)))

pub xors-all : (t m : List ℕ) (i : ℕ) → min (length t) (length m) ≤ i → take i t ++ xors (drop i t) (drop i m) ≡ t
xors-all t m i h = elim (cases_lt i (length t)) [
  | inl k ↦ let e : length m ≤ i = omega arith in rw (drop_all i m e, xors-nil (drop i t)) (take-append-drop i t)
  | inr k ↦ rw (take_all i t k, drop_all i t k) (append-nil t)
]

pub xors-assoc : (t a b : List ℕ) → length b ≤ length a → xors (xors t a) b ≡ xors t (xors a b)
xors-assoc [] a b h = refl
xors-assoc (x ∷ t) [] [] h = refl
xors-assoc (x ∷ t) [] (y ∷ b) h = absurd (omega arith)
xors-assoc (x ∷ t) (z ∷ a) [] h = refl
xors-assoc (x ∷ t) (z ∷ a) (y ∷ b) h = ap₂ (λ v vs. v ∷ vs) (xor_assoc x z y) (xors-assoc t a b (omega arith))

pub xors-zeros : (t : List ℕ) (n : ℕ) → xors t (replicate n 0) ≡ t
xors-zeros [] n = refl
xors-zeros (x ∷ t) zero = refl
xors-zeros (x ∷ t) (suc n) = ap₂ (λ v vs. v ∷ vs) (xor_zero_r x) (xors-zeros t n)
