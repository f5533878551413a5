-- Stretching: PBKDF2 as section 5.2 of RFC 8018 defines it, and the password and salt that the rounds give it.
-- The pseudorandom function prf takes a password and a text, and its results have hLen bytes.
use Rattle.std.specs.Prelude.{ℕ, zero, suc, ◌+◌, ◌-◌, ◌*◌, ◌/◌, ◌%◌, ◌^◌, Bool, cond, List, [], ◌∷◌, ◌++◌, length, take, codes}
use Rattle.digest.specs.Keyed.{xors}

-- INT (i): four bytes, the most significant first
abbrev pub int : ℕ → List ℕ
int i = (i / 16777216 % 256) ∷ (i / 65536 % 256) ∷ (i / 256 % 256) ∷ (i % 256) ∷ []

-- U_j, where U_0 stands for the text of which U_1 is made: S || INT (i)
unfoldable pub iterated : (List ℕ → List ℕ) → List ℕ → ℕ → List ℕ
iterated f text zero = text
iterated f text (suc j) = f (iterated f text j)

-- U_1 xor U_2 xor .. xor U_c
unfoldable pub combined : (List ℕ → List ℕ) → List ℕ → ℕ → List ℕ
combined f text zero = []
combined f text (suc zero) = iterated f text 1
combined f text (suc (suc c)) = xors (combined f text (suc c)) (iterated f text (suc (suc c)))

-- T_1 || T_2 || .. || T_l, where T_i = F (P, S, c, i)
unfoldable pub blocks : (List ℕ → List ℕ) → List ℕ → ℕ → ℕ → List ℕ
blocks f salt c zero = []
blocks f salt c (suc l) = blocks f salt c l ++ combined f (salt ++ int (suc l)) c

-- l is dkLen / hLen, rounded up
abbrev pub block_count : ℕ → ℕ → ℕ
block_count hLen dkLen = (dkLen + hLen - 1) / hLen

-- the first dkLen bytes of the blocks
unfoldable pub pbkdf2 : (List ℕ → List ℕ → List ℕ) → ℕ → List ℕ → List ℕ → ℕ → ℕ → List ℕ
pbkdf2 prf hLen password salt c dkLen = take dkLen (blocks (prf password) salt c (block_count hLen dkLen))

-- the round number as one byte, then the passphrase
abbrev pub password_of : ℕ → List ℕ → List ℕ
password_of round passphrase = round ∷ passphrase

-- what goes before the half in the salt: nothing if the flag is 1
abbrev pub salt_prefix : ℕ → Bool → List ℕ
salt_prefix identifier extendable = cond extendable [] (codes "shamir" ++ (identifier / 256) ∷ (identifier % 256) ∷ [])

abbrev pub salt_of : ℕ → Bool → List ℕ → List ℕ
salt_of identifier extendable half = salt_prefix identifier extendable ++ half

abbrev pub iterations : ℕ → ℕ
iterations exponent = 2500 * 2 ^ exponent

-- the round function that stretching is
abbrev pub stretched : (List ℕ → List ℕ → List ℕ) → ℕ → ℕ → List ℕ → ℕ → Bool → ℕ → List ℕ → List ℕ
stretched prf hLen round passphrase identifier extendable exponent half =
    pbkdf2 prf hLen (password_of round passphrase) (salt_of identifier extendable half) (iterations exponent) (length half)
