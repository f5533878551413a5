-- The cipher keeps a secret's length, and makes bytes of bytes.
use Rattle.std.proofs.Common.{◌≡◌, ℕ, ◌+◌, ◌/◌, ◌<◌, Bool, List, [], ◌∷◌, length, ◌∙◌, arith, lit<, length-append, length-drop, length-take}
use lib.Bits.{xor_lt}
use Rattle.digest.specs.Keyed.{Bytes, xors}
use Rattle.digest.proofs.Xors.{length-xors}
use Rattle.cipher.specs.Feistel.{Halves, halved, turned, right_then_left, network, under, encrypted, decrypted}
use Rattle.sharing.proofs.CurveTheorems.{bytes-append, bytes_take, bytes_drop}

bytes-xors : (xs ys : List ℕ) → Bytes xs → Bytes ys → Bytes (xors xs ys)
bytes-xors [] ys h k = tt
bytes-xors (x ∷ xs) [] h k = h
bytes-xors (x ∷ xs) (y ∷ ys) h k = (xor_lt 8 x y h.0 k.0, bytes-xors xs ys h.1 k.1)

-- ---- one round
abbrev size : Halves → ℕ
size h = length h.left + length h.right

size-turned : (f : List ℕ → List ℕ) (h : Halves) → size (turned f h) ≡ size h
size-turned f h = let e : length (xors h.left (f h.right)) ≡ length h.left = length-xors h.left (f h.right) in omega arith

abbrev BytesIn : Halves → Type 0
BytesIn h = Bytes h.left × Bytes h.right

bytes-turned : (f : List ℕ → List ℕ) → ((part : List ℕ) → Bytes part → Bytes (f part)) → (h : Halves) → BytesIn h → BytesIn (turned f h)
bytes-turned f bytes h (l, r) = (r, bytes-xors h.left (f h.right) l (bytes h.right r))

-- ---- four rounds
size-halved : (m : List ℕ) → size (halved m) ≡ length m
size-halved m = omega (arith, length-take (length m / 2) m, length-drop (length m / 2) m)

pub length-network : (F : ℕ → List ℕ → List ℕ) (a b c d : ℕ) (m : List ℕ) → length (network F a b c d m) ≡ length m
unfolding network
length-network F a b c d m =
    let h1 = turned (F a) (halved m) in
    let h2 = turned (F b) h1 in
    let h3 = turned (F c) h2 in
    joined (turned (F d) h3) ∙ size-turned (F d) h3 ∙ size-turned (F c) h2 ∙ size-turned (F b) h1 ∙ size-turned (F a) (halved m) ∙ size-halved m
  where
    joined : (h : Halves) → length (right_then_left h) ≡ size h
    joined h = omega (arith, length-append h.right h.left)

pub bytes-network : (F : ℕ → List ℕ → List ℕ) → ((i : ℕ) → i < 4 → (part : List ℕ) → Bytes part → Bytes (F i part))
    → (a b c d : ℕ) → a < 4 → b < 4 → c < 4 → d < 4 → (m : List ℕ) → Bytes m → Bytes (network F a b c d m)
unfolding network
bytes-network F bytes a b c d la lb lc ld m h =
    let k = bytes-turned (F d) (bytes d ld) _ (bytes-turned (F c) (bytes c lc) _ (bytes-turned (F b) (bytes b lb) _ (bytes-turned (F a) (bytes a la) (halved m)
    (bytes_take (length m / 2) m h, bytes_drop (length m / 2) m h)))) in
    bytes-append _ _ k.1 k.0

-- ---- a round function whose results are bytes
module _ (function : ℕ → List ℕ → ℕ → Bool → ℕ → List ℕ → List ℕ)
    (bytes : (number : ℕ) (phrase : List ℕ) (id : ℕ) (flag : Bool) (e : ℕ) (part : List ℕ) → number < 4 → id < 32768 → e < 16 → Bytes phrase → Bytes part
    → Bytes (function number phrase id flag e part))
    (passphrase : List ℕ) (identifier : ℕ) (extendable : Bool) (exponent : ℕ) (phrase-bytes : Bytes passphrase) (identifier_fits : identifier < 32768) (exponent_fits : exponent < 16) where
  rounds-bytes : (i : ℕ) → i < 4 → (part : List ℕ) → Bytes part → Bytes (under function passphrase identifier extendable exponent i part)
  rounds-bytes i l part h = bytes i passphrase identifier extendable exponent part l identifier_fits exponent_fits phrase-bytes h

  pub bytes-encrypted : (m : List ℕ) → Bytes m → Bytes (encrypted (under function passphrase identifier extendable exponent) m)
  bytes-encrypted = bytes-network _ rounds-bytes 0 1 2 3 (lit< tt) (lit< tt) (lit< tt) (lit< tt)

  pub bytes-decrypted : (e : List ℕ) → Bytes e → Bytes (decrypted (under function passphrase identifier extendable exponent) e)
  bytes-decrypted = bytes-network _ rounds-bytes 3 2 1 0 (lit< tt) (lit< tt) (lit< tt) (lit< tt)
