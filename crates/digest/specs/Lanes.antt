-- The lanes of the drill digest, byte by byte.
use Rattle.std.specs.Prelude.{◌≡◌, ℕ, zero, suc, ◌+◌, ◌%◌, ◌<◌, ◌≤◌, List, [], ◌∷◌, ◌++◌, length, drop, bit_xor, slice_index, slice_set, refl}
use Rattle.std.proofs.Common.{sym, ap, ◌∙◌, arith, lit<}
use Rattle.std.specs.Int.Bits.{xor_assoc, xor_zero_r}
use Rattle.std.proofs.lemmas.Nat.{xor_lt}
use Rattle.std.proofs.lemmas.List.{drop_more, drop_all}
use Rattle.digest.specs.Keyed.{Bytes}
use Rattle.digest.specs.Drill.{lane, lanes}

abbrev pub none : List ℕ
none = 0 ∷ 0 ∷ 0 ∷ 0 ∷ []

-- the lanes after more bytes, the first of them at position n
abbrev pub mixed : List ℕ → ℕ → List ℕ → List ℕ
mixed before n [] = before
mixed before n (x ∷ xs) = mixed (slice_set before (n % 4) (bit_xor (slice_index before (n % 4)) x)) (n + 1) xs

pub mixed-append : (before : List ℕ) (n : ℕ) (xs ys : List ℕ) → mixed before n (xs ++ ys) ≡ mixed (mixed before n xs) (n + length xs) ys
mixed-append before n [] ys = ap (λ k. mixed before k ys) (omega arith)
mixed-append before n (x ∷ xs) ys =
    let at : n + 1 + length xs ≡ n + suc (length xs) = omega arith in
    mixed-append (slice_set before (n % 4) (bit_xor (slice_index before (n % 4)) x)) (n + 1) xs ys
    ∙ ap (λ k. mixed (mixed before n (x ∷ xs)) k ys) at

pub mixed-more : (before : List ℕ) (n n' i : ℕ) (xs : List ℕ) → n' ≡ n + 1 → i < length xs →
    mixed (slice_set before (n % 4) (bit_xor (slice_index before (n % 4)) (slice_index xs i))) n' (drop (i + 1) xs) ≡ mixed before n (drop i xs)
mixed-more before n n' i xs e h =
    ap (λ k. mixed (slice_set before (n % 4) (bit_xor (slice_index before (n % 4)) (slice_index xs i))) k (drop (i + 1) xs)) e
    ∙ ap (mixed before n) (sym (drop_more xs i 0 h))

pub mixed-all : (before : List ℕ) (n i : ℕ) (xs : List ℕ) → length xs ≤ i → mixed before n (drop i xs) ≡ before
mixed-all before n i xs h = ap (mixed before n) (drop_all i xs h)

-- from position n on, a lane takes every fourth byte; the four cases of n modulo 4
abbrev four : ℕ → ℕ → ℕ → ℕ → List ℕ
four a b c d = a ∷ b ∷ c ∷ d ∷ []

step : (a b c d n k x : ℕ) (xs : List ℕ) → n % 4 ≡ k →
    mixed (four a b c d) n (x ∷ xs) ≡ mixed (slice_set (four a b c d) k (bit_xor (slice_index (four a b c d) k) x)) (n + 1) xs
step a b c d n k x xs e = ap (λ j. mixed (slice_set (four a b c d) j (bit_xor (slice_index (four a b c d) j) x)) (n + 1) xs) e

-- the lanes that the bytes from position n on are combined into, n being r modulo 4
abbrev Every : ℕ → (List ℕ → ℕ) → (List ℕ → ℕ) → (List ℕ → ℕ) → (List ℕ → ℕ) → List ℕ → Type 0
Every r f g h k xs =
    (a b c d n : ℕ) → n % 4 ≡ r → mixed (four a b c d) n xs ≡ four (bit_xor a (f xs)) (bit_xor b (g xs)) (bit_xor c (h xs)) (bit_xor d (k xs))

every : (xs : List ℕ) → Every 0 (lane 0) (lane 1) (lane 2) (lane 3) xs × Every 1 (lane 3) (lane 0) (lane 1) (lane 2) xs × Every 2 (lane 2) (lane 3) (lane 0) (lane 1) xs × Every 3 (lane 1) (lane 2) (lane 3) (lane 0) xs
every [] = (λ a b c d n e. simp xor_zero_r, λ a b c d n e. simp xor_zero_r, λ a b c d n e. simp xor_zero_r, λ a b c d n e. simp xor_zero_r)
every (x ∷ xs) =
    let rest = every xs in (
      λ a b c d n e.
          step a b c d n 0 x xs e ∙ rest.1 (bit_xor a x) b c d (n + 1) (omega arith)
          ∙ ap (λ y. four y (bit_xor b (lane 0 xs)) (bit_xor c (lane 1 xs)) (bit_xor d (lane 2 xs))) (xor_assoc a x (lane 3 xs)),
      λ a b c d n e.
          step a b c d n 1 x xs e ∙ rest.2 a (bit_xor b x) c d (n + 1) (omega arith)
          ∙ ap (λ y. four (bit_xor a (lane 2 xs)) y (bit_xor c (lane 0 xs)) (bit_xor d (lane 1 xs))) (xor_assoc b x (lane 3 xs)),
      λ a b c d n e.
          step a b c d n 2 x xs e ∙ rest.3 a b (bit_xor c x) d (n + 1) (omega arith)
          ∙ ap (λ y. four (bit_xor a (lane 1 xs)) (bit_xor b (lane 2 xs)) y (bit_xor d (lane 0 xs))) (xor_assoc c x (lane 3 xs)),
      λ a b c d n e.
          step a b c d n 3 x xs e ∙ rest.0 a b c (bit_xor d x) (n + 1) (omega arith)
          ∙ ap (λ y. four (bit_xor a (lane 0 xs)) (bit_xor b (lane 1 xs)) (bit_xor c (lane 2 xs)) y) (xor_assoc d x (lane 3 xs)),
    )

pub mixed-lanes : (xs : List ℕ) → mixed none 0 xs ≡ lanes xs
mixed-lanes xs = (every xs).0 0 0 0 0 0 refl

lane_byte : (j : ℕ) (xs : List ℕ) → Bytes xs → lane j xs < 256
lane_byte j [] h = lit< tt
lane_byte zero (x ∷ xs) h = xor_lt 8 x (lane 3 xs) h.0 (lane_byte 3 xs h.1)
lane_byte (suc j) (x ∷ xs) h = lane_byte j xs h.1

pub lanes_bytes : (xs : List ℕ) → Bytes xs → Bytes (lanes xs)
lanes_bytes xs h = (lane_byte 0 xs h, (lane_byte 1 xs h, (lane_byte 2 xs h, (lane_byte 3 xs h, tt))))
