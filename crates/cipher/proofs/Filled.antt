-- A space that is filled with the blocks of PBKDF2, one after the other.
use Rattle.std.proofs.Common.{◌≡◌, ℕ, zero, suc, ◌+◌, ◌-◌, ◌*◌, ◌/◌, ◌%◌, ◌<◌, ◌≤◌, min, List, ◌++◌, length, take, sym, ap, ap₂, ◌∙◌, arith}
use Rattle.std.proofs.Math.Nat.{add-mul}
use Rattle.std.proofs.Math.Seq.{take-append-add}
use Rattle.std.proofs.lemmas.Nat.{div-add-mod', div-mul-add, mod_below, mul-le}
use Rattle.std.proofs.lemmas.List.{take_all, length-take-le}
use Rattle.std.proofs.lemmas.Grind.{div_ceil_times}
use Rattle.std.proofs.lemmas.Slice.{take-put_mid}
use Rattle.std.specs.Int.{div_ceil}
use borrow.Rule.Slice.PartMut.{put_mid}
use Rattle.cipher.specs.Stretching.{int, combined, blocks, block_count, pbkdf2}
use Rattle.cipher.specs.Blocks.{length-blocks, blocks_more, blocks-enough}

ceil_of : (n L q r : ℕ) → r < L → q * L + r ≡ n → q + min 1 r ≡ (n + L - 1) / L
ceil_of n L q zero h e =
    let above : (n + L - 1) / L ≡ q = ap (λ m. m / L) (omega arith) ∙ div-mul-add q L (L - 1) (omega arith) in
    omega arith
ceil_of n L q (suc r) h e =
    let above : (n + L - 1) / L ≡ q + 1 = ap (λ m. m / L) (omega (arith, add-mul q 1 L)) ∙ div-mul-add (q + 1) L r (omega arith) in
    omega arith

pub div_ceil-is : (n L : ℕ) → 0 < L → div_ceil n L ≡ block_count L n
div_ceil-is n L pos = ceil_of n L (n / L) (n % L) (mod_below n L pos) (div-add-mod' n L)

-- a block before the last ends before the result does
within : (L n i : ℕ) → 0 < L → i < div_ceil n L → i * L < n
within L n i pos h = omega (arith, div_ceil_times n L pos, mul-le (i + 1) L (div_ceil n L) L (omega arith) (omega arith), add-mul i 1 L)

module _ (prf : List ℕ → List ℕ → List ℕ) (password : List ℕ) (L : ℕ) (sized : (m : List ℕ) → length (prf password m) ≡ L) (pos : 0 < L) (salt : List ℕ) (c : ℕ) (some : 1 ≤ c) where
  -- one block more after the first `at` bytes, cut at the end of the space
  pub one_more : (n i at end : ℕ) (space block cut : List ℕ) → i < div_ceil n L → length space ≡ n → at ≡ i * L → end ≡ min n (at + L) →
      take (min (i * L) n) space ≡ take (min (i * L) n) (blocks (prf password) salt c i) → block ≡ combined (prf password) (salt ++ int (i + 1)) c → length block ≡ L → cut ≡ take (end - at) block →
      take (min ((i + 1) * L) n) (put_mid at (end - at) space cut) ≡ take (min ((i + 1) * L) n) (blocks (prf password) salt c (i + 1))
  one_more n i at end space block cut h long ea ee held eb sized-block ec =
      let inside : i * L < n = within L n i pos h in
      let at' : min (i * L) n ≡ at = omega arith in
      let end' : min ((i + 1) * L) n ≡ end = omega (arith, add-mul i 1 L) in
      let size : length cut ≡ end - at = ap length ec ∙ length-take-le (end - at) block (omega arith) in
      let all = length-blocks (prf password) L sized salt c i some in
      let front : take at space ≡ blocks (prf password) salt c i =
      ap (λ k. take k space) (sym at') ∙ held ∙ take_all (min (i * L) n) (blocks (prf password) salt c i) (omega (arith, all)) in
      ap (λ k. take k (put_mid at (end - at) space cut)) end'
      ∙ take-put_mid at (end - at) space cut end (omega arith) (omega arith)
      ∙ ap₂ ◌++◌ front ec
      ∙ sym (take-append-add (blocks (prf password) salt c i) block (end - at))
      ∙ ap₂ (λ k (b : List ℕ). take k (blocks (prf password) salt c i ++ b)) (omega (arith, all)) eb
      ∙ ap (λ k. take k (blocks (prf password) salt c i ++ combined (prf password) (salt ++ int (i + 1)) c)) (sym end')
      ∙ ap (take (min ((i + 1) * L) n)) (sym (blocks_more (prf password) salt c i))

  -- as many blocks as are wanted
  pub whole : (n i : ℕ) (space : List ℕ) → length space ≡ n → i ≡ div_ceil n L → take (min (i * L) n) space ≡ take (min (i * L) n) (blocks (prf password) salt c i) →
      space ≡ pbkdf2 prf L password salt c n
  unfolding pbkdf2
  whole n i space long e held =
      let count : i ≡ block_count L n = e ∙ div_ceil-is n L pos in
      let enough : n ≤ i * L = rw count (blocks-enough L n pos) in
      let all : min (i * L) n ≡ n = omega arith in
      sym (take_all n space (omega arith)) ∙ ap (λ k. take k space) (sym all) ∙ held ∙ ap₂ (λ k l. take k (blocks (prf password) salt c l)) all count
