-- The key's block, and HMAC from the hash values after it.
use Rattle.std.proofs.Common.{◌≡◌, ℕ, ◌+◌, ◌-◌, ◌/◌, ◌<◌, ◌≤◌, List, ◌++◌, map, length, drop, replicate, sym, ap, ◌∙◌, ap₂, inl, inr, arith, le-ltb, lt-ltb}
use lib.Bits.{bit_xor}
use Rattle.std.proofs.lemmas.List.{drop-replicate, length-append, length-map, length-replicate, append_assoc}
use Rattle.std.proofs.lemmas.Bool.{cases_lt}
use Rattle.digest.specs.Sha256.{initial, hashed, bytes_of, padding, sha256}
use Rattle.digest.specs.Hmac.{filled, key_block, hmac}
use Rattle.digest.specs.Parts.{finished, key_state}
use Rattle.digest.specs.Padding.{length-sha256, hashed-all}

pub filled_is : (copied block key : List ℕ) → block ≡ replicate 64 0 → copied ≡ key → copied ++ drop (length key) block ≡ filled key
filled_is copied block key eb ec = ap₂ ◌++◌ ec (ap (drop (length key)) eb ∙ drop-replicate (length key) 64 0)

pub key_long : (key : List ℕ) → 64 < length key → filled (sha256 key) ≡ key_block sha256 key
unfolding key_block
key_long key h = sym (rw (lt-ltb 64 (length key) h))

pub key_short : (key : List ℕ) → length key ≤ 64 → filled key ≡ key_block sha256 key
unfolding key_block
key_short key h = sym (rw (le-ltb 64 (length key) h))

length-filled : (key : List ℕ) → length key ≤ 64 → length (filled key) ≡ 64
length-filled key h =
    let zeros : List ℕ = replicate (64 - length key) 0 in
    let many : length zeros ≡ 64 - length key = length-replicate (64 - length key) 0 in
    omega (arith, length-append key zeros)

length-block : (key : List ℕ) → length (key_block sha256 key) ≡ 64
unfolding key_block
length-block key = elim (cases_lt 64 (length key)) [
  | inl h ↦ rw (lt-ltb 64 (length key) h) (length-filled (sha256 key) (omega (arith, length-sha256 key)))
  | inr h ↦ rw (le-ltb 64 (length key) h) (length-filled key h)
]

-- the hash value after the key's block
pub state-is : (mask : ℕ) (key block m h : List ℕ) → block ≡ key_block sha256 key → m ≡ map (bit_xor mask) block → length m ≡ 64 → h ≡ hashed initial (length m / 64) m → h ≡ key_state mask key
unfolding key_state
state-is mask key block m h eb em long eh =
    let one : length m / 64 ≡ 1 = omega arith in
    eh ∙ ap₂ (λ n x. hashed initial n x) one (em ∙ ap (map (bit_xor mask)) eb)

-- the digest of a block and more bytes
sha256-after : (x y : List ℕ) → length x ≡ 64 → finished (hashed initial 1 x) 64 y ≡ sha256 (x ++ y)
unfolding finished sha256
sha256-after x y long =
    let p : List ℕ = padding (64 + length y) in
    let many : length (x ++ y) ≡ 64 + length y = length-append x y ∙ ap (λ n. n + length y) long in
    let one : 1 ≡ length x / 64 = omega arith in
    let whole : x ++ (y ++ p) ≡ (x ++ y) ++ padding (length (x ++ y)) = sym (append_assoc x y p) ∙ ap (λ n. (x ++ y) ++ padding n) (sym many) in
    ap (λ n. bytes_of (hashed (hashed initial n x) (length (y ++ p) / 64) (y ++ p))) one
    ∙ ap bytes_of (sym (hashed-all initial x (y ++ p) (omega arith)))
    ∙ ap (λ z. bytes_of (hashed initial (length z / 64) z)) whole

pub hmac-is : (key m : List ℕ) → finished (key_state 0x5c key) 64 (finished (key_state 0x36 key) 64 m) ≡ hmac sha256 key m
unfolding key_state hmac
hmac-is key m =
    let block : List ℕ = key_block sha256 key in
    let long : (mask : ℕ) → length (map (bit_xor mask) block) ≡ 64 = λ mask. length-map block (bit_xor mask) ∙ length-block key in
    ap (finished (hashed initial 1 (map (bit_xor 0x5c) block)) 64) (sha256-after (map (bit_xor 0x36) block) m (long 0x36))
    ∙ sha256-after (map (bit_xor 0x5c) block) (sha256 (map (bit_xor 0x36) block ++ m)) (long 0x5c)
