-- Word by word, each from the four bytes of its chunk.
use Rattle.std.proofs.Common.{◌≡◌, ℕ, ◌+◌, ◌*◌, ◌/◌, ◌<◌, List, [], length, get_or, take, drop, map, ap, ◌∙◌, add-zero, arith, rules}
use Rattle.std.specs.Int.{from_be_bytes}
use Rattle.std.specs.Simd.{first_chunks}
use Rattle.std.specs.List.{range_with_len}
use Rattle.std.proofs.lemmas.List.FromFn.{fill_by_all, length-map-range_with_len, get_or-map-range_with_len}
use Rattle.std.proofs.lemmas.List.{get_or-take, get_or-drop}
use Rattle.digest.specs.Sha256.{words_of, word_at}
use Rattle.digest.proofs.Made.{made_by, chunk_at}
use Rattle.digest.proofs.sha256.blocks.load.Goals as goal
use mir.Syntax.{w32}

byte_at : (xs : List ℕ) (i j : ℕ) → j < 4 → get_or (take 4 (drop (4 * i) xs)) j 0 ≡ get_or xs (4 * i + j) 0
byte_at xs i j h = get_or-take 4 (drop (4 * i) xs) j 0 h ∙ get_or-drop (4 * i) xs j 0

word_of_chunk : (n : ℕ) (xs : List ℕ) (i : ℕ) → i < n → from_be_bytes w32 (get_or (first_chunks 4 n xs) i []) ≡ word_at xs i
word_of_chunk n xs i h =
    let first : get_or (take 4 (drop (4 * i) xs)) 0 0 ≡ get_or xs (4 * i) 0 = byte_at xs i 0 (omega arith) ∙ ap (λ j. get_or xs j 0) (add-zero (4 * i)) in
    ap (from_be_bytes w32) (chunk_at 4 n xs i [] h) ∙ rw (first, byte_at xs i 1 (omega arith), byte_at xs i 2 (omega arith), byte_at xs i 3 (omega arith))

pub returns : goal.returns
unfolding words_of
returns g c =
    let p : List ℕ = c.args.bytes.now in
    let n : ℕ = g.row.N in
    let chunks : List (List ℕ) = c.as_chunks.result.0.now in
    let many : length p / 4 ≡ n = omega arith in
    let word : ℕ → ℕ = λ i. from_be_bytes w32 (get_or chunks i []) in
    let same : chunks ≡ first_chunks 4 n p = c.as_chunks.ensures.front ∙ ap (λ k. first_chunks 4 k p) many in
    made_by _ _ word (λ i y q k. search rules) c.from_fn.result n c.from_fn.ensures.items
    ∙ fill_by_all (word_at p) (map word (range_with_len 0 n)) n 0 (length-map-range_with_len word 0 n)
    (λ k lt. get_or-map-range_with_len word 0 n k k 0 lt (omega arith) ∙ ap (λ cs. from_be_bytes w32 (get_or cs k [])) same ∙ word_of_chunk n p k lt)
