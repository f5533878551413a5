-- HMAC as FIPS 198-1 defines it, over a hash H whose blocks have 64 bytes.
use Rattle.std.specs.Prelude.{ℕ, ◌-◌, cond, List, ◌++◌, map, length, replicate, bit_xor, nat_lt}

-- with zeros after it, up to a block
abbrev pub filled : List ℕ → List ℕ
filled key = key ++ replicate (64 - length key) 0

-- Section 4, steps 1 to 3: a key longer than a block is hashed first
unfoldable pub key_block : (List ℕ → List ℕ) → List ℕ → List ℕ
key_block H key = cond (nat_lt 64 (length key)) (filled (H key)) (filled key)

-- Section 4, steps 4 to 9
unfoldable pub hmac : (List ℕ → List ℕ) → List ℕ → List ℕ → List ℕ
hmac H key text =
    let ipad : List ℕ = map (bit_xor 0x36) (key_block H key) in
    let opad : List ℕ = map (bit_xor 0x5c) (key_block H key) in
    H (opad ++ H (ipad ++ text))
