-- Whole blocks, then the end of a message with its padding.
use Rattle.std.specs.Prelude.{◌≡◌, ℕ, zero, suc, ◌+◌, ◌-◌, ◌*◌, ◌/◌, ◌%◌, ◌^◌, ◌<◌, ◌≤◌, List, [], ◌∷◌, ◌++◌, length, take, drop, replicate, slice_index, slice_set, refl}
use Rattle.std.proofs.Common.{sym, ap, ap₂, ◌∙◌, add-zero, add-suc, mod-lt, zero-lt-suc, add-one, arith}
use Rattle.std.proofs.Math.Seq.{take-add, take-append-add, drop-append-add}
use Rattle.std.proofs.lemmas.List.{length-append, append_assoc, length-drop, take-append-le, drop-append-le, drop-drop, take-replicate, drop-replicate, take_more, set_at, set-append_right, drop-set-add}
use Rattle.digest.specs.Keyed.{Bytes}
use Rattle.digest.specs.Sha256.{initial, compressed, words_of, block_of, hashed, padding, padded, zero_bytes, be32, be64, bytes_of, sha256}
use Rattle.digest.specs.Parts.{finished}

pub hashed-none : (h p : List ℕ) → h ≡ hashed h 0 p
unfolding hashed
hashed-none h p = refl

pub hashed-more : (h : List ℕ) (n : ℕ) (p : List ℕ) → hashed h (n + 1) p ≡ compressed (hashed h n p) (block_of n p)
unfolding hashed
hashed-more h n p = ap (λ k. hashed h k p) (add-one n)

-- the first blocks do not depend on what comes after them
hashed-front : (h : List ℕ) (a : ℕ) (x y : List ℕ) → 64 * a ≤ length x → hashed h a (x ++ y) ≡ hashed h a x
unfolding hashed
hashed-front h zero x y le = refl
hashed-front h (suc a) x y le =
    let cut : take 64 (drop (64 * a) (x ++ y)) ≡ take 64 (drop (64 * a) x) =
    ap (take 64) (drop-append-le (64 * a) x y (omega arith)) ∙ take-append-le 64 (drop (64 * a) x) y (omega (arith, length-drop (64 * a) x)) in
    ap₂ (λ u w. compressed u (words_of 16 w)) (hashed-front h a x y (omega arith)) cut

-- the hash value goes on from whole blocks
hashed-append : (h : List ℕ) (a b : ℕ) (x y : List ℕ) → length x ≡ 64 * a → hashed h (a + b) (x ++ y) ≡ hashed (hashed h a x) b y
unfolding hashed
hashed-append h a zero x y e = ap (λ k. hashed h k (x ++ y)) (add-zero a) ∙ hashed-front h a x y (omega arith)
hashed-append h a (suc b) x y e =
    let at : 64 * (a + b) ≡ length x + 64 * b = omega arith in
    let cut : drop (64 * (a + b)) (x ++ y) ≡ drop (64 * b) y = ap (λ k. drop k (x ++ y)) at ∙ drop-append-add x y (64 * b) in
    ap (λ k. hashed h k (x ++ y)) (add-suc a b)
    ∙ ap₂ (λ u w. compressed u (words_of 16 (take 64 w))) (hashed-append h a b x y e) cut

pub hashed-all : (h x t : List ℕ) → length x % 64 ≡ 0 → hashed h (length (x ++ t) / 64) (x ++ t) ≡ hashed (hashed h (length x / 64) x) (length t / 64) t
hashed-all h x t e =
    let many : length (x ++ t) / 64 ≡ length x / 64 + length t / 64 = omega (arith, length-append x t) in
    ap (λ k. hashed h k (x ++ t)) many ∙ hashed-append h (length x / 64) (length t / 64) x t (omega arith)

-- the message is x, whole blocks, then y
pub finish_is : (h x y m : List ℕ) (before : ℕ) (t middle last : List ℕ) → x ++ y ≡ m → length x % 64 ≡ 0 →
    middle ≡ hashed h (length x / 64) x → t ≡ y ++ padding (before + length m) → last ≡ hashed middle (length t / 64) t → bytes_of last ≡ finished h before m
unfolding finished
finish_is h x y m before t middle last em e0 emid et el =
    let p : List ℕ = padding (before + length m) in
    let whole : x ++ t ≡ m ++ p = ap (λ z. x ++ z) et ∙ sym (append_assoc x y p) ∙ ap (λ z. z ++ p) em in
    ap bytes_of (el ∙ ap (λ u. hashed u (length t / 64) t) emid ∙ sym (hashed-all h x t e0) ∙ ap (λ z. hashed h (length z / 64) z) whole)

pub sha256-is : (m : List ℕ) → finished initial 0 m ≡ sha256 m
unfolding finished sha256
sha256-is m =
    let e : 0 + length m ≡ length m = omega arith in
    ap (λ n. bytes_of (hashed initial (length (m ++ padding n) / 64) (m ++ padding n))) e

-- eight bytes hold a number modulo 2 ^ 64
pub be64-mod : (n : ℕ) → be64 (n * 8 % 2 ^ 64) ≡ be64 (8 * n)
be64-mod n =
    let y : ℕ = n * 8 % 2 ^ 64 in
    let e0 : y / 72057594037927936 % 256 ≡ 8 * n / 72057594037927936 % 256 = omega arith in
    let e1 : y / 281474976710656 % 256 ≡ 8 * n / 281474976710656 % 256 = omega arith in
    let e2 : y / 1099511627776 % 256 ≡ 8 * n / 1099511627776 % 256 = omega arith in
    let e3 : y / 4294967296 % 256 ≡ 8 * n / 4294967296 % 256 = omega arith in
    let e4 : y / 16777216 % 256 ≡ 8 * n / 16777216 % 256 = omega arith in
    let e5 : y / 65536 % 256 ≡ 8 * n / 65536 % 256 = omega arith in
    let e6 : y / 256 % 256 ≡ 8 * n / 256 % 256 = omega arith in
    let e7 : y % 256 ≡ 8 * n % 256 = omega arith in
    cc

-- the bytes of `tail`, after the rest of the message, the byte 0x80 and the number of bits were put in
pub pad_is : (rest : List ℕ) (total at at2 m end : ℕ) (tail0 tail1 tail2 tail3 : List ℕ) → tail0 ≡ replicate 128 0 → at2 ≡ at + 1 → m ≡ at2 + zero_bytes total → m ≤ 120 →
    take at tail1 ≡ rest → drop at tail1 ≡ drop at tail0 → take at2 tail2 ≡ take at tail1 ++ 0x80 ∷ [] → drop at2 tail2 ≡ drop at2 tail1 →
    take end tail3 ≡ take m tail2 ++ be64 (8 * total) → take end tail3 ≡ rest ++ padding total
unfolding padding
pad_is rest total at at2 m end tail0 tail1 tail2 tail3 e0 en em small t1 d1 t2 d2 e3 =
    let z : ℕ = zero_bytes total in
    let clear : drop at2 tail2 ≡ replicate (128 - at2) 0 =
    d2 ∙ ap (λ k. drop k tail1) en ∙ sym (drop-drop 1 at tail1) ∙ ap (drop 1) d1 ∙ drop-drop 1 at tail0 ∙ ap (λ k. drop k tail0) (sym en) ∙ ap (drop at2) e0 ∙ drop-replicate at2 128 0 in
    let front : take m tail2 ≡ (rest ++ 0x80 ∷ []) ++ replicate z 0 =
    ap (λ k. take k tail2) em ∙ take-add at2 z tail2
    ∙ ap₂ ◌++◌ (t2 ∙ ap (λ r. r ++ 0x80 ∷ []) t1) (ap (take z) clear ∙ take-replicate z (128 - at2) 0 (omega arith)) in
    e3 ∙ ap (λ r. r ++ be64 (8 * total)) front
    ∙ append_assoc (rest ++ 0x80 ∷ []) (replicate z 0) (be64 (8 * total))
    ∙ append_assoc rest (0x80 ∷ []) (replicate z 0 ++ be64 (8 * total))

cleared : (rest : List ℕ) (left : ℕ) → 128 - length rest ≡ suc left → rest ++ drop (length rest) (replicate 128 0) ≡ rest ++ 0 ∷ replicate left 0
cleared rest left e = ap (λ v. rest ++ v) (drop-replicate (length rest) 128 0 ∙ ap (λ k. replicate k 0) e)

filled_up : (rest : List ℕ) (left z m : ℕ) → m ≡ length rest + suc z → z ≤ left → take m (rest ++ 0x80 ∷ replicate left 0) ≡ rest ++ 0x80 ∷ replicate z 0
filled_up rest left z m em le =
    ap (λ k. take k (rest ++ 0x80 ∷ replicate left 0)) em ∙ take-append-add rest (0x80 ∷ replicate left 0) (suc z) ∙ ap (λ r. rest ++ 0x80 ∷ r) (take-replicate z left 0 le)

-- the bytes of a space, after the rest of the message, the byte 0x80 and the number of bits were put in
pub padded_space : (rest copied space eight : List ℕ) (total left m : ℕ) → copied ≡ rest → space ≡ replicate 128 0 → eight ≡ be64 (8 * total) → 128 - length rest ≡ suc left →
    m ≡ length rest + suc (zero_bytes total) → zero_bytes total ≤ left → take m (slice_set (copied ++ drop (length rest) space) (length rest) 0x80) ++ eight ≡ rest ++ padding total
unfolding padding
padded_space rest copied space eight total left m ec es e8 el em le =
    let n : ℕ = length rest in
    let z : ℕ = zero_bytes total in
    let was : copied ++ drop n space ≡ rest ++ 0 ∷ replicate left 0 = ap₂ (λ u v. u ++ drop n v) ec es ∙ cleared rest left el in
    let marked : slice_set (copied ++ drop n space) n 0x80 ≡ rest ++ 0x80 ∷ replicate left 0 =
    ap (λ u. slice_set u n 0x80) was ∙ set_at rest 0 (replicate left 0) 0x80 n refl in
    let front : take m (slice_set (copied ++ drop n space) n 0x80) ≡ rest ++ 0x80 ∷ replicate z 0 = ap (take m) marked ∙ filled_up rest left z m em le in
    ap₂ ◌++◌ front e8 ∙ append_assoc rest (0x80 ∷ replicate z 0) (be64 (8 * total))

-- the byte that is put in before the copy is the byte that is put in after it
pub marked_first : (copied space : List ℕ) (n mark : ℕ) → length copied ≡ n → copied ++ drop n (slice_set space n mark) ≡ slice_set (copied ++ drop n space) n mark
marked_first copied space n mark e =
    let at : n ≡ n + 0 = omega arith in
    let none : 0 ≡ n - n = omega arith in
    ap (λ r. copied ++ r) (ap (λ k. drop n (slice_set space k mark)) at ∙ drop-set-add n space 0 mark ∙ ap (λ k. slice_set (drop n space) k mark) none)
    ∙ sym (set-append_right copied (drop n space) n n mark e (omega arith))

bytes-append : (xs ys : List ℕ) → bytes_of (xs ++ ys) ≡ bytes_of xs ++ bytes_of ys
bytes-append [] ys = refl
bytes-append (x ∷ xs) ys = ap (λ r. be32 x ++ r) (bytes-append xs ys)

pub bytes-more : (xs : List ℕ) (i : ℕ) → i < length xs → bytes_of (take (i + 1) xs) ≡ bytes_of (take i xs) ++ be32 (slice_index xs i)
bytes-more xs i h = ap bytes_of (take_more xs i 0 h) ∙ bytes-append (take i xs) (slice_index xs i ∷ [])

pub length-bytes : (xs : List ℕ) → length (bytes_of xs) ≡ 4 * length xs
length-bytes [] = refl
length-bytes (x ∷ xs) = omega (arith, length-bytes xs)

length-hashed : (n : ℕ) (p : List ℕ) → length (hashed initial n p) ≡ 8
unfolding hashed compressed
length-hashed zero p = refl
length-hashed (suc n) p = refl

pub length-sha256 : (m : List ℕ) → length (sha256 m) ≡ 32
unfolding sha256
length-sha256 m =
    let p : List ℕ = padded m in
    length-bytes (hashed initial (length p / 64) p) ∙ ap (λ k. 4 * k) (length-hashed (length p / 64) p)

below : (x : ℕ) → x % 256 < 256
below x = mod-lt x (zero-lt-suc 255)

all-bytes : (xs : List ℕ) → Bytes (bytes_of xs)
all-bytes [] = tt
all-bytes (x ∷ xs) = (below (x / 16777216), (below (x / 65536), (below (x / 256), (below x, all-bytes xs))))

pub bytes-sha256 : (m : List ℕ) → Bytes (sha256 m)
unfolding sha256
bytes-sha256 m = all-bytes (hashed initial (length (padded m) / 64) (padded m))
