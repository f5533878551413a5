-- A chain of HMAC digests on words, and the same on bytes.
use Rattle.std.proofs.Common.{◌≡◌, ℕ, zero, suc, ◌+◌, ◌*◌, ◌/◌, ◌%◌, ◌^◌, ◌<◌, ◌≤◌, List, [], ◌∷◌, ◌++◌, map, length, get_or, replicate, sym, refl, ap, ◌∙◌, ap₂, mod-lt, arith, pow_pos}
use lib.Bits.{bit_xor, xor_shr, xor_mod}
use Rattle.std.specs.List.{range_with_len}
use Rattle.std.proofs.lemmas.List.{length-append, take_all}
use Rattle.std.proofs.lemmas.List.FromFn.{fill_by_all}
use Rattle.digest.specs.Keyed.{xors, last_link, chain_total}
use Rattle.digest.specs.Sha256.{bytes_of, word_at, words_of, padding, compressed, hashed, sha256}
use Rattle.digest.specs.Hmac.{hmac}
use Rattle.digest.specs.Parts.{finished, key_state, digest_block, next_link}
use Rattle.digest.proofs.Xors.{xors-assoc, xors-zeros}
use Rattle.digest.proofs.Chains.{length-total}
use Rattle.digest.specs.Padding.{length-bytes}
use Rattle.digest.proofs.Keys.{hmac-is}

-- a list of n elements, one by one
abbrev pub listed : ℕ → List ℕ → List ℕ
listed n xs = map (λ i. get_or xs i 0) (range_with_len 0 n)

pub listed-is : (n : ℕ) (xs : List ℕ) → length xs ≡ n → xs ≡ listed n xs
listed-is n xs h = fill_by_all (λ i. get_or xs i 0) xs n 0 h (λ k lt. refl)

pub xors-eight : (x y : List ℕ) → length x ≡ 8 → length y ≡ 8 → xors (listed 8 x) (listed 8 y) ≡ xors x y
xors-eight x y hx hy = sym (ap₂ xors (listed-is 8 x hx) (listed-is 8 y hy))

-- the words before the inner compression, between the two, and after the outer one
abbrev pub link_at : List ℕ → List ℕ → List ℕ → ℕ → List ℕ
link_at inner outer v zero = v
link_at inner outer v (suc zero) = compressed inner (digest_block v)
link_at inner outer v (suc (suc n)) = next_link inner outer v

pub link_inner : (inner outer v value block next state : List ℕ) (n : ℕ) → n ≡ 0 → value ≡ link_at inner outer v n → state ≡ inner → block ≡ digest_block value → next ≡ compressed state block → next ≡ link_at inner outer v (n + 1)
link_inner inner outer v value block next state n e ev es eb en =
    let value-is : value ≡ v = ev ∙ ap (link_at inner outer v) e in
    en ∙ ap₂ compressed es (eb ∙ ap digest_block value-is) ∙ sym (ap (λ k. link_at inner outer v (k + 1)) e)

pub link_outer : (inner outer v value block next state : List ℕ) (n : ℕ) → n ≡ 1 → value ≡ link_at inner outer v n → state ≡ outer → block ≡ digest_block value → next ≡ compressed state block → next ≡ link_at inner outer v (n + 1)
unfolding next_link
link_outer inner outer v value block next state n e ev es eb en =
    let value-is : value ≡ compressed inner (digest_block v) = ev ∙ ap (link_at inner outer v) e in
    en ∙ ap₂ compressed es (eb ∙ ap digest_block value-is) ∙ sym (ap (λ k. link_at inner outer v (k + 1)) e)

-- the last block of a message of 32 bytes after one block
padded-words : (u : List ℕ) → length u ≡ 32 → words_of 16 (u ++ padding 96) ≡ digest_block (words_of 8 u)
unfolding words_of padding
padded-words u h = ap (λ x. map (word_at (x ++ padding 96)) (range_with_len 0 16)) (listed-is 32 u h) ∙ ap (λ x. digest_block (map (word_at x) (range_with_len 0 8))) (sym (listed-is 32 u h))

-- words below 2 ^ 32 come back from their bytes

word_back : (x : ℕ) → x < 2 ^ 32 → (x / 16777216 % 256) * 16777216 + (x / 65536 % 256) * 65536 + (x / 256 % 256) * 256 + x % 256 ≡ x
word_back x h =
    let e1 : x / 65536 ≡ x / 256 / 256 = omega arith in
    let e2 : x / 16777216 ≡ x / 256 / 256 / 256 = omega arith in
    rw (e1, e2) (omega arith)

eight-back : (a b c d e f g h : ℕ) → words_of 8 (bytes_of (a % 2 ^ 32 ∷ b % 2 ^ 32 ∷ c % 2 ^ 32 ∷ d % 2 ^ 32 ∷ e % 2 ^ 32 ∷ f % 2 ^ 32 ∷ g % 2 ^ 32 ∷ h % 2 ^ 32 ∷ [])) ≡ a % 2 ^ 32 ∷ b % 2 ^ 32 ∷ c % 2 ^ 32 ∷ d % 2 ^ 32 ∷ e % 2 ^ 32 ∷ f % 2 ^ 32 ∷ g % 2 ^ 32 ∷ h % 2 ^ 32 ∷ []
unfolding words_of
eight-back a b c d e f g h =
    let ea = word_back (a % 2 ^ 32) (mod-lt a (pow_pos 32)) in
    let eb = word_back (b % 2 ^ 32) (mod-lt b (pow_pos 32)) in
    let ec = word_back (c % 2 ^ 32) (mod-lt c (pow_pos 32)) in
    let ed = word_back (d % 2 ^ 32) (mod-lt d (pow_pos 32)) in
    let ee = word_back (e % 2 ^ 32) (mod-lt e (pow_pos 32)) in
    let ef = word_back (f % 2 ^ 32) (mod-lt f (pow_pos 32)) in
    let eg = word_back (g % 2 ^ 32) (mod-lt g (pow_pos 32)) in
    let eh = word_back (h % 2 ^ 32) (mod-lt h (pow_pos 32)) in
    cc

pub words_back : (h b : List ℕ) → words_of 8 (bytes_of (compressed h b)) ≡ compressed h b
unfolding compressed
words_back h b = eight-back _ _ _ _ _ _ _ _

length-compressed : (h b : List ℕ) → length (compressed h b) ≡ 8
unfolding compressed
length-compressed h b = refl

length-compressed-bytes : (h b : List ℕ) → length (bytes_of (compressed h b)) ≡ 32
unfolding compressed
length-compressed-bytes h b = refl

-- the digest of one block and 32 bytes is one compression
finished-words : (h u : List ℕ) → length u ≡ 32 → finished h 64 u ≡ bytes_of (compressed h (digest_block (words_of 8 u)))
unfolding finished hashed padding
finished-words h u long =
    let n : 64 + length u ≡ 96 = omega arith in
    let p : List ℕ = u ++ padding 96 in
    let all : length p ≡ 64 = length-append u (padding 96) ∙ ap (λ k. k + 32) long in
    let one : length p / 64 ≡ 1 = omega arith in
    ap (λ k. bytes_of (hashed h (length (u ++ padding k) / 64) (u ++ padding k))) n
    ∙ ap (λ k. bytes_of (hashed h k p)) one
    ∙ ap (λ x. bytes_of (compressed h (words_of 16 x))) (take_all 64 p (omega arith))
    ∙ ap (λ x. bytes_of (compressed h x)) (padded-words u long)

-- a digest under a key, on words
hmac-words : (key u : List ℕ) → length u ≡ 32 → hmac sha256 key u ≡ bytes_of (next_link (key_state 0x36 key) (key_state 0x5c key) (words_of 8 u))
unfolding next_link
hmac-words key u long =
    let inner : List ℕ = key_state 0x36 key in
    let outer : List ℕ = key_state 0x5c key in
    let first : List ℕ = compressed inner (digest_block (words_of 8 u)) in
    sym (hmac-is key u)
    ∙ ap (finished outer 64) (finished-words inner u long)
    ∙ finished-words outer (bytes_of first) (length-compressed-bytes inner (digest_block (words_of 8 u)))
    ∙ ap (λ x. bytes_of (compressed outer (digest_block x))) (words_back inner (digest_block (words_of 8 u)))

-- the exclusive or of words, on their bytes

byte_xor : (x y k : ℕ) → bit_xor x y / 2 ^ k % 2 ^ 8 ≡ bit_xor (x / 2 ^ k % 2 ^ 8) (y / 2 ^ k % 2 ^ 8)
byte_xor x y k = ap (λ z. z % 2 ^ 8) (xor_shr x y k) ∙ xor_mod (x / 2 ^ k) (y / 2 ^ k) 8

bytes-xors : (xs ys : List ℕ) → length xs ≡ length ys → bytes_of (xors xs ys) ≡ xors (bytes_of xs) (bytes_of ys)
bytes-xors [] ys h = refl
bytes-xors (x ∷ xs) [] h = absurd (omega arith)
bytes-xors (x ∷ xs) (y ∷ ys) h =
    let e3 = byte_xor x y 24 in
    let e2 = byte_xor x y 16 in
    let e1 = byte_xor x y 8 in
    let e0 = xor_mod x y 8 in
    let rest = bytes-xors xs ys (omega arith) in
    cc

module _ (key u : List ℕ) (long : length u ≡ 32) where
  abbrev f : List ℕ → List ℕ
  f = hmac sha256 key

  abbrev g : List ℕ → List ℕ
  g = next_link (key_state 0x36 key) (key_state 0x5c key)

  abbrev v : List ℕ
  v = words_of 8 u

  -- after one digest or more, the words come back from their bytes
  link_back : (n : ℕ) → words_of 8 (bytes_of (last_link g v (suc n))) ≡ last_link g v (suc n)
  unfolding last_link next_link
  link_back n = words_back _ _

  length-link-bytes : (n : ℕ) → length (bytes_of (last_link g v (suc n))) ≡ 32
  unfolding last_link next_link
  length-link-bytes n = length-compressed-bytes _ _

  length-link-words : (n : ℕ) → length (last_link g v (suc n)) ≡ 8
  unfolding last_link next_link
  length-link-words n = length-compressed _ _

  last_suc : (n : ℕ) → last_link f u (suc n) ≡ bytes_of (last_link g v (suc n))
  unfolding last_link
  last_suc zero = hmac-words key u long
  last_suc (suc n) = ap f (last_suc n) ∙ hmac-words key (bytes_of (last_link g v (suc n))) (length-link-bytes n) ∙ ap (λ x. bytes_of (g x)) (link_back n)

  pub last_words : (n : ℕ) → 0 < n → last_link f u n ≡ bytes_of (last_link g v n)
  last_words zero h = absurd (omega arith)
  last_words (suc n) h = last_suc n

  pub total_words : (t : List ℕ) → length t ≡ 32 → (n : ℕ) → chain_total f u t n ≡ xors t (bytes_of (chain_total g v (replicate 8 0) n))
  unfolding chain_total
  total_words t lt zero = sym (xors-zeros t 32)
  total_words t lt (suc n) =
      let sum : List ℕ = chain_total g v (replicate 8 0) n in
      let next : List ℕ = last_link g v (suc n) in
      let many : length sum ≡ 8 = length-total g v (replicate 8 0) n in
      let same : length sum ≡ length next = many ∙ sym (length-link-words n) in
      let short : length (bytes_of next) ≤ length (bytes_of sum) = omega (arith, length-link-bytes n, length-bytes sum) in
      ap₂ xors (total_words t lt n) (last_suc n) ∙ xors-assoc t (bytes_of sum) (bytes_of next) short ∙ ap (xors t) (sym (bytes-xors sum next same))
