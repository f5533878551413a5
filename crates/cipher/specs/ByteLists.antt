-- Lists of bytes, and that the result of PBKDF2 is one.
use Rattle.std.specs.Prelude.{ℕ, zero, suc, ◌<◌, Bool, true, false, List, [], ◌∷◌, ◌++◌}
use Rattle.std.proofs.Common.{arith, lit<}
use Rattle.std.proofs.ByRecursion.{All-append, All-take}
use Rattle.std.proofs.lemmas.Nat.{xor_lt}
use Rattle.digest.specs.Keyed.{Bytes, xors}
use Rattle.cipher.specs.Stretching.{int, iterated, combined, blocks, block_count, pbkdf2, salt_of}

bytes-xors : (xs ys : List ℕ) → Bytes xs → Bytes ys → Bytes (xors xs ys)
bytes-xors [] ys h k = tt
bytes-xors (x ∷ xs) [] h k = h
bytes-xors (x ∷ xs) (y ∷ ys) h k = (xor_lt 8 x y h.0 k.0, bytes-xors xs ys h.1 k.1)

bytes-int : (i : ℕ) → Bytes (int i)
bytes-int i = (omega arith, (omega arith, (omega arith, (omega arith, tt))))

pub bytes-salt : (id : ℕ) (flag : Bool) (half : List ℕ) → id < 32768 → Bytes half → Bytes (salt_of id flag half)
bytes-salt id true half h k = k
bytes-salt id false half h k = (lit< tt, (lit< tt, (lit< tt, (lit< tt, (lit< tt, (lit< tt, (omega arith, (omega arith, k))))))))

module _ (f : List ℕ → List ℕ) (bytes : (m : List ℕ) → Bytes m → Bytes (f m)) where
  bytes-iterated : (text : List ℕ) (n : ℕ) → Bytes text → Bytes (iterated f text n)
  unfolding iterated
  bytes-iterated text zero h = h
  bytes-iterated text (suc n) h = bytes (iterated f text n) (bytes-iterated text n h)

  bytes-combined : (text : List ℕ) (c : ℕ) → Bytes text → Bytes (combined f text c)
  unfolding combined
  bytes-combined text zero h = tt
  bytes-combined text (suc zero) h = bytes-iterated text 1 h
  bytes-combined text (suc (suc c)) h = bytes-xors (combined f text (suc c)) (iterated f text (suc (suc c))) (bytes-combined text (suc c) h) (bytes-iterated text (suc (suc c)) h)

  bytes-blocks : (salt : List ℕ) (c l : ℕ) → Bytes salt → Bytes (blocks f salt c l)
  unfolding blocks
  bytes-blocks salt c zero h = tt
  bytes-blocks salt c (suc l) h =
      All-append _ (blocks f salt c l) (combined f (salt ++ int (suc l)) c) (bytes-blocks salt c l h) (bytes-combined (salt ++ int (suc l)) c (All-append _ salt (int (suc l)) h (bytes-int (suc l))))

pub bytes-pbkdf2 : (prf : List ℕ → List ℕ → List ℕ) → ((k m : List ℕ) → Bytes k → Bytes m → Bytes (prf k m)) → (L : ℕ) (password salt : List ℕ) (c n : ℕ) → Bytes password → Bytes salt → Bytes (pbkdf2 prf L password salt c n)
unfolding pbkdf2
bytes-pbkdf2 prf bytes L password salt c n h k =
    All-take _ n (blocks (prf password) salt c (block_count L n)) (bytes-blocks (prf password) (λ m. bytes password m h) salt c (block_count L n) k)
