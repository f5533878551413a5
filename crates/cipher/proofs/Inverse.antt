-- The network with its rounds in the reverse order undoes it, whatever the round function.
use Rattle.std.proofs.Common.{◌≡◌, ℕ, ◌/◌, ◌%◌, true, ◌&&◌, eqb, leb, List, [], ◌∷◌, ◌++◌, length, drop, sym, refl, ap, ◌∙◌, arith}
use lib.Bits.{bit_xor, xor_assoc, xor_self, xor_zero_r}
use Rattle.std.proofs.lemmas.Bool.{eqb-true, and_parts}
use Rattle.std.proofs.lemmas.List.{length-append, take-append-drop, take_at, drop_at, length-take, length-drop}
use Rattle.digest.specs.Keyed.{xors}
use Rattle.digest.proofs.Xors.{length-xors}
use Rattle.cipher.specs.Feistel.{Halves, halved, turned, right_then_left, network, decrypted, is_secret_length, Undone}

pub xors-twice : (xs ys : List ℕ) → xors (xors xs ys) ys ≡ xs
xors-twice [] ys = refl
xors-twice (x ∷ xs) [] = refl
xors-twice (x ∷ xs) (y ∷ ys) =
    let e : bit_xor (bit_xor x y) y ≡ x = xor_assoc x y y ∙ ap (bit_xor x) (xor_self y) ∙ xor_zero_r x in
    ap (λ z. z ∷ xors (xors xs ys) ys) e ∙ ap (λ (zs : List ℕ). x ∷ zs) (xors-twice xs ys)

swapped : Halves → Halves
swapped h = record { left = h.right; right = h.left }

-- the same round after a swap leaves the swapped halves
turned-back : (f : List ℕ → List ℕ) (h : Halves) → turned f (swapped (turned f h)) ≡ swapped h
unfolding swapped
turned-back f h = ap (λ (x : List ℕ). record { left = h.right; right = x }) (xors-twice h.left (f h.right))

rounds-back : (f g h k : List ℕ → List ℕ) (m : Halves) → turned f (turned g (turned h (turned k (swapped (turned k (turned h (turned g (turned f m)))))))) ≡ swapped m
rounds-back f g h k m =
    let a = turned f m in
    let b = turned g a in
    let c = turned h b in
    ap (λ (t : Halves). turned f (turned g (turned h t))) (turned-back k c)
    ∙ ap (λ (t : Halves). turned f (turned g t)) (turned-back h b)
    ∙ ap (λ (t : Halves). turned f t) (turned-back g a)
    ∙ turned-back f m

-- halves of one length, joined with the right one first, are halved to the swapped halves
halved-joined : (h : Halves) → length h.left ≡ length h.right → halved (right_then_left h) ≡ swapped h
unfolding swapped
halved-joined h e =
    let n : length h.right ≡ length (h.right ++ h.left) / 2 = omega (arith, length-append h.right h.left) in
    ap (λ (x : List ℕ). record { left = x; right = drop (length (h.right ++ h.left) / 2) (h.right ++ h.left) }) (take_at h.right h.left _ n)
    ∙ ap (λ (x : List ℕ). record { left = h.right; right = x }) (drop_at h.right h.left _ n)

pub even_halves : (m : List ℕ) → length m % 2 ≡ 0 → length (halved m).left ≡ length (halved m).right
even_halves m e = omega (arith, length-take (length m / 2) m, length-drop (length m / 2) m)

pub even_turned : (f : List ℕ → List ℕ) (h : Halves) → length h.left ≡ length h.right → length (turned f h).left ≡ length (turned f h).right
even_turned f h e = sym e ∙ sym (length-xors h.left (f h.right))

joined_halved : (m : List ℕ) → right_then_left (swapped (halved m)) ≡ m
unfolding swapped
joined_halved m = take-append-drop (length m / 2) m

pub network-back : (F : ℕ → List ℕ → List ℕ) (a b c d : ℕ) (m : List ℕ) → length m % 2 ≡ 0 → network F d c b a (network F a b c d m) ≡ m
unfolding network
network-back F a b c d m e =
    let h = turned (F d) (turned (F c) (turned (F b) (turned (F a) (halved m)))) in
    let even = even_turned (F d) _ (even_turned (F c) _ (even_turned (F b) _ (even_turned (F a) (halved m) (even_halves m e)))) in
    ap (λ (t : Halves). right_then_left (turned (F a) (turned (F b) (turned (F c) (turned (F d) t))))) (halved-joined h even)
    ∙ ap right_then_left (rounds-back (F a) (F b) (F c) (F d) (halved m)) ∙ joined_halved m

pub even_length : (n : ℕ) → is_secret_length n ≡ true → n % 2 ≡ 0
even_length n h = eqb-true (n % 2) 0 (and_parts (eqb (n % 2) 0) (leb 16 n && leb n 64) h).0

pub undone : (F : ℕ → List ℕ → List ℕ) → Undone F
undone F = record {
  decrypt_encrypted = λ m h. network-back F 0 1 2 3 m (even_length (length m) h);
  encrypt_decrypted = λ m h. network-back F 3 2 1 0 m (even_length (length m) h);
  apart = λ m n h k e.
      sym (network-back F 0 1 2 3 m (even_length (length m) h)) ∙ ap (decrypted F) e ∙ network-back F 0 1 2 3 n (even_length (length n) k);
}
