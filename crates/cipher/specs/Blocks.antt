-- The blocks of PBKDF2, one after the other.
use Rattle.std.specs.Prelude.{◌≡◌, ℕ, zero, suc, ◌+◌, ◌-◌, ◌*◌, ◌<◌, ◌≤◌, min, List, ◌++◌, length, take}
use Rattle.std.proofs.Common.{sym, ap, ap₂, ◌∙◌, add-one}
use Rattle.std.proofs.Math.Nat.{add-mul}
use Rattle.std.proofs.Math.Seq.{take-append-add}
use native.Mathlib.Omega.{arith}
use Rattle.std.proofs.lemmas.Nat.{div-add-mod', mod_below, mul-le}
use Rattle.std.proofs.lemmas.List.{length-append, take_all, length-take-le}
use Rattle.digest.proofs.Xors.{length-xors}
use Rattle.cipher.specs.Stretching.{int, iterated, combined, blocks, block_count, pbkdf2}

-- the front of a list up to `at`, and the part that is cut at `end`
pub take-cut : (a part : List ℕ) (at end : ℕ) → at ≤ length a → at ≤ end → take at a ++ take (end - at) part ≡ take end (take at a ++ part)
take-cut a part at end h k =
    let long : length (take at a) + (end - at) ≡ end = omega (arith, length-take-le at a h) in
    sym (take-append-add (take at a) part (end - at)) ∙ ap (λ n. take n (take at a ++ part)) long

module _ (f : List ℕ → List ℕ) (L : ℕ) (sized : (m : List ℕ) → length (f m) ≡ L) where
  length-combined : (text : List ℕ) (n : ℕ) → length (combined f text (suc n)) ≡ L
  unfolding combined iterated
  length-combined text zero = sized text
  length-combined text (suc n) = length-xors (combined f text (suc n)) (iterated f text (suc (suc n))) ∙ length-combined text n

  pub length-block : (text : List ℕ) (c : ℕ) → 1 ≤ c → length (combined f text c) ≡ L
  length-block text zero h = absurd (omega arith)
  length-block text (suc n) h = length-combined text n

  pub length-blocks : (salt : List ℕ) (c l : ℕ) → 1 ≤ c → length (blocks f salt c l) ≡ l * L
  unfolding blocks
  length-blocks salt c zero h = omega arith
  length-blocks salt c (suc l) h =
      length-append (blocks f salt c l) (combined f (salt ++ int (suc l)) c)
      ∙ rw (length-blocks salt c l h, length-block (salt ++ int (suc l)) c h) (omega (arith, add-mul l 1 L))

pub blocks_more : (f : List ℕ → List ℕ) (salt : List ℕ) (c l : ℕ) → blocks f salt c (l + 1) ≡ blocks f salt c l ++ combined f (salt ++ int (l + 1)) c
unfolding blocks
blocks_more f salt c l = rw add-one

-- a block before the last ends before the result does
pub block_within : (L n i : ℕ) → 0 < L → i < block_count L n → i * L < n
block_within L n i pos h = omega (arith, div-add-mod' (n + L - 1) L, mul-le (i + 1) L (block_count L n) L (omega arith) (omega arith), add-mul i 1 L)

pub blocks-enough : (L n : ℕ) → 0 < L → n ≤ block_count L n * L
blocks-enough L n pos = omega (arith, div-add-mod' (n + L - 1) L, mod_below (n + L - 1) L pos)

pub next_end : (L n i at end : ℕ) → at ≡ min (i * L) n → end ≡ min (at + L) n → end ≡ min ((i + 1) * L) n
next_end L n i at end ea ee = omega (arith, add-mul i 1 L)

-- one block more in front of the space
pub blocks_step : (f : List ℕ → List ℕ) (L : ℕ) → ((m : List ℕ) → length (f m) ≡ L) → 0 < L → (salt : List ℕ) (c n i at end : ℕ) (space after block : List ℕ) → 1 ≤ c → i < block_count L n →
    at ≡ min (i * L) n → take at space ≡ take at (blocks f salt c i) → block ≡ combined f (salt ++ int (i + 1)) c → take end after ≡ take end (take at space ++ block) →
    take end after ≡ take end (blocks f salt c (i + 1))
blocks_step f L sized pos salt c n i at end space after block hc hi ea front eb held =
    let within = block_within L n i pos hi in
    let whole : take at (blocks f salt c i) ≡ blocks f salt c i = take_all at (blocks f salt c i) (omega (arith, length-blocks f L sized salt c i hc)) in
    held ∙ ap (take end) (ap₂ ◌++◌ (front ∙ whole) eb ∙ sym (blocks_more f salt c i))

pub pbkdf2-is : (prf : List ℕ → List ℕ → List ℕ) (L : ℕ) → 0 < L → (password salt : List ℕ) (c n i at : ℕ) (space : List ℕ) → length space ≡ n → i ≡ block_count L n →
    at ≡ min (i * L) n → take at space ≡ take at (blocks (prf password) salt c i) → space ≡ pbkdf2 prf L password salt c n
unfolding pbkdf2
pbkdf2-is prf L pos password salt c n i at space long ei ea held =
    let enough : n ≤ i * L = rw ei (blocks-enough L n pos) in
    let all : at ≡ n = omega arith in
    sym (take_all at space (omega arith)) ∙ held ∙ ap₂ (λ m l. take m (blocks (prf password) salt c l)) all ei

pub length-pbkdf2 : (prf : List ℕ → List ℕ → List ℕ) (L : ℕ) → ((k m : List ℕ) → length (prf k m) ≡ L) → 0 < L → (password salt : List ℕ) (c n : ℕ) → 1 ≤ c → length (pbkdf2 prf L password salt c n) ≡ n
unfolding pbkdf2
length-pbkdf2 prf L sized pos password salt c n h =
    length-take-le n (blocks (prf password) salt c (block_count L n)) (omega (arith, blocks-enough L n pos, length-blocks (prf password) L (sized password) salt c (block_count L n) h))
