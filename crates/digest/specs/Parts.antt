-- What inner functions of SHA-256 and HMAC compute, in the words of the definitions in Sha256.
use Rattle.std.specs.Prelude.{◌≡◌, ℕ, zero, suc, ◌+◌, ◌/◌, List, [], ◌∷◌, ◌++◌, map, length, bit_xor, slice_index, slice_index_or}
use Rattle.digest.specs.Sha256.{plus, small_sigma0, small_sigma1, constants, initial, round_of, compressed, hashed, bytes_of, padding, sha256}
use Rattle.digest.specs.Hmac.{key_block}

-- a word of the schedule, from those 16, 15, 7 and 2 before it
abbrev pub scheduled_from : ℕ → ℕ → ℕ → ℕ → ℕ
scheduled_from w16 w15 w7 w2 = plus (plus (plus (small_sigma1 w2) w7) (small_sigma0 w15)) w16

-- r are the 16 words of the schedule after the 16 words w
pub record NextWords (w r : List ℕ) : Type 0 where
  pub n0 : slice_index_or r 0 0 ≡ scheduled_from (slice_index w 0) (slice_index w 1) (slice_index w 9) (slice_index w 14)
  pub n1 : slice_index_or r 1 0 ≡ scheduled_from (slice_index w 1) (slice_index w 2) (slice_index w 10) (slice_index w 15)
  pub n2 : slice_index_or r 2 0 ≡ scheduled_from (slice_index w 2) (slice_index w 3) (slice_index w 11) (slice_index r 0)
  pub n3 : slice_index_or r 3 0 ≡ scheduled_from (slice_index w 3) (slice_index w 4) (slice_index w 12) (slice_index r 1)
  pub n4 : slice_index_or r 4 0 ≡ scheduled_from (slice_index w 4) (slice_index w 5) (slice_index w 13) (slice_index r 2)
  pub n5 : slice_index_or r 5 0 ≡ scheduled_from (slice_index w 5) (slice_index w 6) (slice_index w 14) (slice_index r 3)
  pub n6 : slice_index_or r 6 0 ≡ scheduled_from (slice_index w 6) (slice_index w 7) (slice_index w 15) (slice_index r 4)
  pub n7 : slice_index_or r 7 0 ≡ scheduled_from (slice_index w 7) (slice_index w 8) (slice_index r 0) (slice_index r 5)
  pub n8 : slice_index_or r 8 0 ≡ scheduled_from (slice_index w 8) (slice_index w 9) (slice_index r 1) (slice_index r 6)
  pub n9 : slice_index_or r 9 0 ≡ scheduled_from (slice_index w 9) (slice_index w 10) (slice_index r 2) (slice_index r 7)
  pub n10 : slice_index_or r 10 0 ≡ scheduled_from (slice_index w 10) (slice_index w 11) (slice_index r 3) (slice_index r 8)
  pub n11 : slice_index_or r 11 0 ≡ scheduled_from (slice_index w 11) (slice_index w 12) (slice_index r 4) (slice_index r 9)
  pub n12 : slice_index_or r 12 0 ≡ scheduled_from (slice_index w 12) (slice_index w 13) (slice_index r 5) (slice_index r 10)
  pub n13 : slice_index_or r 13 0 ≡ scheduled_from (slice_index w 13) (slice_index w 14) (slice_index r 6) (slice_index r 11)
  pub n14 : slice_index_or r 14 0 ≡ scheduled_from (slice_index w 14) (slice_index w 15) (slice_index r 7) (slice_index r 12)
  pub n15 : slice_index_or r 15 0 ≡ scheduled_from (slice_index w 15) (slice_index r 0) (slice_index r 8) (slice_index r 13)

-- n rounds from the round t on, under the words w from there on
unfoldable pub rounds_from : ℕ → ℕ → List ℕ → List ℕ → List ℕ
rounds_from t zero w v = v
rounds_from t (suc n) w v = round_of (slice_index constants (t + n)) (slice_index w n) (rounds_from t n w v)

-- the digest of whole blocks of so many bytes, which led to the hash value h, and of the message after them
unfoldable pub finished : List ℕ → ℕ → List ℕ → List ℕ
finished h before message =
    let p : List ℕ = message ++ padding (before + length message) in
    bytes_of (hashed h (length p / 64) p)

-- the hash value after the key's block, each of its bytes combined with the mask
unfoldable pub key_state : ℕ → List ℕ → List ℕ
key_state mask key = hashed initial 1 (map (bit_xor mask) (key_block sha256 key))

-- the words of the last block of a message that has one block before it and ends with the digest of these words
abbrev pub digest_block : List ℕ → List ℕ
digest_block v =
    slice_index v 0 ∷ slice_index v 1 ∷ slice_index v 2 ∷ slice_index v 3 ∷ slice_index v 4 ∷ slice_index v 5 ∷ slice_index v 6 ∷ slice_index v 7 ∷
    0x80000000 ∷ 0 ∷ 0 ∷ 0 ∷ 0 ∷ 0 ∷ 0 ∷ 768 ∷ []

-- the words of a digest under the key of these states, from the words of the digest that is its message
unfoldable pub next_link : List ℕ → List ℕ → List ℕ → List ℕ
next_link inner outer v = compressed outer (digest_block (compressed inner (digest_block v)))
