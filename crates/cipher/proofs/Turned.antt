-- A round over the halves of a list, as it is done in place.
use Rattle.std.proofs.Common.{◌≡◌, ℕ, ◌+◌, ◌-◌, ◌/◌, List, ◌++◌, length, take, drop, sym, ap, ◌∙◌, ap₂, arith}
use native.Mathlib.Nat.{sub-zero}
use Rattle.std.proofs.lemmas.List.{length-append, length-take, length-drop, take_at, drop_at, take_rest}
use Rattle.digest.specs.Keyed.{xors}
use Rattle.digest.proofs.Xors.{length-xors}
use Rattle.cipher.specs.Feistel.{halved, turned, right_then_left, network}

halves_of : (a b : List ℕ) → length a ≡ length b → halved (a ++ b) ≡ record { left = a; right = b }
halves_of a b e =
    let n : length a ≡ length (a ++ b) / 2 = omega (arith, length-append a b) in
    ap₂ (λ (x y : List ℕ). record { left = x; right = y }) (take_at a b _ n) (drop_at a b _ n)

-- m is what f makes of the right half, x is the left half combined with it, and the two change places
pub turned-in-place : (f : List ℕ → List ℕ) (s m x after : List ℕ) (k : ℕ) → k + k ≡ length s →
    m ≡ f (take (length s - k) (drop k s)) → x ≡ xors (take (k - 0) s) m → after ≡ drop k (x ++ drop (k - 0) s) ++ take k (x ++ drop (k - 0) s) →
    halved after ≡ turned f (halved s)
turned-in-place f s m x after k even em ex ea =
    let half : k ≡ length s / 2 = omega arith in
    let left : length (take (k - 0) s) ≡ k = omega (arith, length-take (k - 0) s) in
    let long : length x ≡ k = ap length ex ∙ length-xors (take (k - 0) s) m ∙ left in
    let right : drop (k - 0) s ≡ drop (length s / 2) s = ap (λ n. drop n s) (sub-zero k ∙ half) in
    let same : length (drop (k - 0) s) ≡ length x = omega (arith, length-drop (k - 0) s) in
    let made : m ≡ f (drop (length s / 2) s) = em ∙ ap f (take_rest s k ∙ ap (λ n. drop n s) half) in
    let swapped : after ≡ drop (k - 0) s ++ x = ea ∙ ap₂ ◌++◌ (drop_at x (drop (k - 0) s) k long) (take_at x (drop (k - 0) s) k long) in
    ap halved swapped ∙ halves_of (drop (k - 0) s) x same
    ∙ ap₂ (λ (y z : List ℕ). record { left = y; right = z }) right (ex ∙ ap₂ xors (ap (λ n. take n s) (sub-zero k ∙ half)) made)

-- the lists s, t, u and v, each a round after the one before it; the halves of the last change places
pub network-in-place : (F : ℕ → List ℕ → List ℕ) (a b c d : ℕ) (m s t u v after : List ℕ) → length v ≡ length m →
    halved s ≡ turned (F a) (halved m) → halved t ≡ turned (F b) (halved s) → halved u ≡ turned (F c) (halved t) → halved v ≡ turned (F d) (halved u) →
    after ≡ drop (length m / 2) v ++ take (length m / 2) v → after ≡ network F a b c d m
unfolding network
network-in-place F a b c d m s t u v after long es et eu ev ea =
    let halves : halved v ≡ turned (F d) (turned (F c) (turned (F b) (turned (F a) (halved m)))) =
    ev ∙ ap (turned (F d)) (eu ∙ ap (turned (F c)) (et ∙ ap (turned (F b)) es)) in
    ea ∙ ap (λ n. drop (n / 2) v ++ take (n / 2) v) (sym long) ∙ ap right_then_left halves
