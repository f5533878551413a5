-- SHA-256 as FIPS 180-4 defines it, on bytes; the sections named are that standard's.
use Rattle.std.specs.Prelude.{ℕ, zero, suc, ◌+◌, ◌-◌, ◌*◌, ◌/◌, ◌%◌, ◌^◌, List, [], ◌∷◌, ◌++◌, map, length, take, drop, replicate, bit_and, bit_or, bit_xor, slice_index, slice_index_or}
use Rattle.std.specs.List.{range_with_len}

-- Section 2.2.2: operations on words, which are numbers below 2 ^ 32

-- sums of words wrap at 2 ^ 32
abbrev pub plus : ℕ → ℕ → ℕ
plus x y = (x + y) % 2 ^ 32

-- the complement of each bit
abbrev pub complement : ℕ → ℕ
complement x = 2 ^ 32 - 1 - x

-- a shift to the right
abbrev pub shr : ℕ → ℕ → ℕ
shr n x = x / 2 ^ n

-- a rotation to the right, by 1 to 31 bits
abbrev pub rotr : ℕ → ℕ → ℕ
rotr n x = bit_or (x / 2 ^ n) (x * 2 ^ (32 - n) % 2 ^ 32)

-- Section 4.1.2: the functions

abbrev pub ch : ℕ → ℕ → ℕ → ℕ
ch x y z = bit_xor (bit_and x y) (bit_and (complement x) z)

abbrev pub maj : ℕ → ℕ → ℕ → ℕ
maj x y z = bit_xor (bit_xor (bit_and x y) (bit_and x z)) (bit_and y z)

abbrev pub big_sigma0 : ℕ → ℕ
big_sigma0 x = bit_xor (bit_xor (rotr 2 x) (rotr 13 x)) (rotr 22 x)

abbrev pub big_sigma1 : ℕ → ℕ
big_sigma1 x = bit_xor (bit_xor (rotr 6 x) (rotr 11 x)) (rotr 25 x)

abbrev pub small_sigma0 : ℕ → ℕ
small_sigma0 x = bit_xor (bit_xor (rotr 7 x) (rotr 18 x)) (shr 3 x)

abbrev pub small_sigma1 : ℕ → ℕ
small_sigma1 x = bit_xor (bit_xor (rotr 17 x) (rotr 19 x)) (shr 10 x)

-- Section 4.2.2: the constants K, from 0

unfoldable pub constants : List ℕ
constants =
    0x428a2f98 ∷ 0x71374491 ∷ 0xb5c0fbcf ∷ 0xe9b5dba5 ∷ 0x3956c25b ∷ 0x59f111f1 ∷ 0x923f82a4 ∷ 0xab1c5ed5 ∷
    0xd807aa98 ∷ 0x12835b01 ∷ 0x243185be ∷ 0x550c7dc3 ∷ 0x72be5d74 ∷ 0x80deb1fe ∷ 0x9bdc06a7 ∷ 0xc19bf174 ∷
    0xe49b69c1 ∷ 0xefbe4786 ∷ 0x0fc19dc6 ∷ 0x240ca1cc ∷ 0x2de92c6f ∷ 0x4a7484aa ∷ 0x5cb0a9dc ∷ 0x76f988da ∷
    0x983e5152 ∷ 0xa831c66d ∷ 0xb00327c8 ∷ 0xbf597fc7 ∷ 0xc6e00bf3 ∷ 0xd5a79147 ∷ 0x06ca6351 ∷ 0x14292967 ∷
    0x27b70a85 ∷ 0x2e1b2138 ∷ 0x4d2c6dfc ∷ 0x53380d13 ∷ 0x650a7354 ∷ 0x766a0abb ∷ 0x81c2c92e ∷ 0x92722c85 ∷
    0xa2bfe8a1 ∷ 0xa81a664b ∷ 0xc24b8b70 ∷ 0xc76c51a3 ∷ 0xd192e819 ∷ 0xd6990624 ∷ 0xf40e3585 ∷ 0x106aa070 ∷
    0x19a4c116 ∷ 0x1e376c08 ∷ 0x2748774c ∷ 0x34b0bcb5 ∷ 0x391c0cb3 ∷ 0x4ed8aa4a ∷ 0x5b9cca4f ∷ 0x682e6ff3 ∷
    0x748f82ee ∷ 0x78a5636f ∷ 0x84c87814 ∷ 0x8cc70208 ∷ 0x90befffa ∷ 0xa4506ceb ∷ 0xbef9a3f7 ∷ 0xc67178f2 ∷ []

-- Section 3.1: a word as four bytes, the high one first, and a number below 2 ^ 64 as eight

abbrev pub be32 : ℕ → List ℕ
be32 x = (x / 16777216 % 256) ∷ (x / 65536 % 256) ∷ (x / 256 % 256) ∷ (x % 256) ∷ []

abbrev pub be64 : ℕ → List ℕ
be64 x =
    (x / 72057594037927936 % 256) ∷ (x / 281474976710656 % 256) ∷ (x / 1099511627776 % 256) ∷ (x / 4294967296 % 256) ∷
    (x / 16777216 % 256) ∷ (x / 65536 % 256) ∷ (x / 256 % 256) ∷ (x % 256) ∷ []

abbrev pub bytes_of : List ℕ → List ℕ
bytes_of [] = []
bytes_of (x ∷ xs) = be32 x ++ bytes_of xs

-- the word k of some bytes
abbrev pub word_at : List ℕ → ℕ → ℕ
word_at bytes k =
    slice_index bytes (4 * k) * 16777216 + slice_index bytes (4 * k + 1) * 65536 + slice_index bytes (4 * k + 2) * 256 + slice_index bytes (4 * k + 3)

-- the first n words of some bytes
unfoldable pub words_of : ℕ → List ℕ → List ℕ
words_of n bytes = map (word_at bytes) (range_with_len 0 n)

-- Section 5.1.1: padding. After a message of n bytes come the bit 1 and zero bits, so few that the last 8 bytes
-- of a block are left for the number of bits

abbrev pub zero_bytes : ℕ → ℕ
zero_bytes n = (119 - n % 64) % 64

unfoldable pub padding : ℕ → List ℕ
padding n = 0x80 ∷ (replicate (zero_bytes n) 0 ++ be64 (8 * n))

abbrev pub padded : List ℕ → List ℕ
padded message = message ++ padding (length message)

-- Section 5.2.1: the words of block k, a block being 64 bytes

abbrev pub block_of : ℕ → List ℕ → List ℕ
block_of k bytes = words_of 16 (take 64 (drop (64 * k) bytes))

-- Section 5.3.3: the initial hash value

abbrev pub initial : List ℕ
initial = 0x6a09e667 ∷ 0xbb67ae85 ∷ 0x3c6ef372 ∷ 0xa54ff53a ∷ 0x510e527f ∷ 0x9b05688c ∷ 0x1f83d9ab ∷ 0x5be0cd19 ∷ []

-- Section 6.2.2, step 1: the message schedule

-- W t, from the words before it
abbrev pub scheduled : ℕ → List ℕ → ℕ
scheduled t w = plus (plus (plus (small_sigma1 (slice_index w (t - 2))) (slice_index w (t - 7))) (small_sigma0 (slice_index w (t - 15)))) (slice_index w (t - 16))

-- the 16 words of a block, and n more
unfoldable pub schedule : ℕ → List ℕ → List ℕ
schedule zero block = block
schedule (suc n) block = let w : List ℕ = schedule n block in w ++ scheduled (16 + n) w ∷ []

-- Section 6.2.2, steps 2 and 3: the rounds on the working variables a to h

-- one round, with the constant k and the word w
unfoldable pub round_of : ℕ → ℕ → List ℕ → List ℕ
round_of k w v =
    let a : ℕ = slice_index_or v 0 0 in
    let b : ℕ = slice_index_or v 1 0 in
    let c : ℕ = slice_index_or v 2 0 in
    let d : ℕ = slice_index_or v 3 0 in
    let e : ℕ = slice_index_or v 4 0 in
    let f : ℕ = slice_index_or v 5 0 in
    let g : ℕ = slice_index_or v 6 0 in
    let h : ℕ = slice_index_or v 7 0 in
    let t1 : ℕ = plus (plus (plus (plus h (big_sigma1 e)) (ch e f g)) k) w in
    let t2 : ℕ = plus (big_sigma0 a) (maj a b c) in
    plus t1 t2 ∷ a ∷ b ∷ c ∷ plus d t1 ∷ e ∷ f ∷ g ∷ []

-- the first t rounds under the schedule w
unfoldable pub rounds : ℕ → List ℕ → List ℕ → List ℕ
rounds zero w v = v
rounds (suc t) w v = round_of (slice_index constants t) (slice_index w t) (rounds t w v)

-- Section 6.2.2, step 4: the next hash value

abbrev pub sum_words : List ℕ → List ℕ → List ℕ
sum_words h v =
    plus (slice_index h 0) (slice_index v 0) ∷ plus (slice_index h 1) (slice_index v 1) ∷ plus (slice_index h 2) (slice_index v 2) ∷ plus (slice_index h 3) (slice_index v 3) ∷
    plus (slice_index h 4) (slice_index v 4) ∷ plus (slice_index h 5) (slice_index v 5) ∷ plus (slice_index h 6) (slice_index v 6) ∷ plus (slice_index h 7) (slice_index v 7) ∷ []

-- from the hash value h and the words of a block
unfoldable pub compressed : List ℕ → List ℕ → List ℕ
compressed h block = sum_words h (rounds 64 (schedule 48 block) h)

-- the hash value after n blocks, from h on
unfoldable pub hashed : List ℕ → ℕ → List ℕ → List ℕ
hashed h zero bytes = h
hashed h (suc n) bytes = compressed (hashed h n bytes) (block_of n bytes)

-- the digest of a message; the standard has it for fewer than 2 ^ 64 bits
unfoldable pub sha256 : List ℕ → List ℕ
sha256 message = let p : List ℕ = padded message in bytes_of (hashed initial (length p / 64) p)
