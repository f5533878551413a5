-- Sixteen words of the schedule and sixteen rounds at a time.
use Rattle.std.proofs.Common.{◌≡◌, ℕ, zero, suc, ◌+◌, ◌-◌, ◌*◌, ◌<◌, ◌≤◌, List, [], ◌∷◌, ◌++◌, map, length, get_or, drop, sym, refl, ap, ◌∙◌, ap₂, add-zero, add-suc, arith}
use Rattle.std.specs.List.{range_with_len}
use Rattle.std.proofs.lemmas.List.{length-append, get_or_append_left, get_or-drop, drop_at, drop-append-le, drop-drop}
use Rattle.std.proofs.lemmas.List.FromFn.{fill_by_all}
use Rattle.digest.specs.Sha256.{schedule, scheduled, rounds, round_of, constants, compressed, sum_words}
use Rattle.digest.specs.Parts.{rounds_from, NextWords}

rounds-same-from : (t n : ℕ) (w u v : List ℕ) → ((i : ℕ) → i < n → get_or w i 0 ≡ get_or u i 0) → rounds_from t n w v ≡ rounds_from t n u v
unfolding rounds_from
rounds-same-from t zero w u v h = refl
rounds-same-from t (suc n) w u v h =
    ap (λ y. round_of (get_or constants (t + n) 0) y (rounds_from t n w v)) (h n (omega arith))
    ∙ ap (round_of (get_or constants (t + n) 0) (get_or u n 0)) (rounds-same-from t n w u v (λ i lt. h i (omega arith)))

rounds-from : (t n : ℕ) (w v : List ℕ) → rounds (t + n) w v ≡ rounds_from t n (drop t w) (rounds t w v)
unfolding rounds_from rounds
rounds-from t zero w v = ap (λ k. rounds k w v) (add-zero t)
rounds-from t (suc n) w v =
    ap (λ k. rounds k w v) (add-suc t n)
    ∙ ap (λ y. round_of (get_or constants (t + n) 0) y (rounds (t + n) w v)) (sym (get_or-drop t w n 0))
    ∙ ap (round_of (get_or constants (t + n) 0) (get_or (drop t w) n 0)) (rounds-from t n w v)

length-schedule : (n : ℕ) (b : List ℕ) → length (schedule n b) ≡ length b + n
unfolding schedule
length-schedule zero b = sym (add-zero (length b))
length-schedule (suc n) b = length-append (schedule n b) (scheduled (16 + n) (schedule n b) ∷ []) ∙ omega (arith, length-schedule n b)

schedule-front : (n : ℕ) (b : List ℕ) (i : ℕ) → i < length b → get_or (schedule n b) i 0 ≡ get_or b i 0
unfolding schedule
schedule-front zero b i h = refl
schedule-front (suc n) b i h =
    get_or_append_left (schedule n b) (scheduled (16 + n) (schedule n b) ∷ []) 0 i (omega (arith, length-schedule n b)) ∙ schedule-front n b i h

-- a word is read from the sixteen before it alone
scheduled-drop : (k t : ℕ) (w : List ℕ) → 16 ≤ t → scheduled t (drop k w) ≡ scheduled (k + t) w
scheduled-drop k t w h =
    let e2 : get_or (drop k w) (t - 2) 0 ≡ get_or w (k + t - 2) 0 = get_or-drop k w (t - 2) 0 ∙ ap (λ x. get_or w x 0) (omega arith) in
    let e7 : get_or (drop k w) (t - 7) 0 ≡ get_or w (k + t - 7) 0 = get_or-drop k w (t - 7) 0 ∙ ap (λ x. get_or w x 0) (omega arith) in
    let e15 : get_or (drop k w) (t - 15) 0 ≡ get_or w (k + t - 15) 0 = get_or-drop k w (t - 15) 0 ∙ ap (λ x. get_or w x 0) (omega arith) in
    let e16 : get_or (drop k w) (t - 16) 0 ≡ get_or w (k + t - 16) 0 = get_or-drop k w (t - 16) 0 ∙ ap (λ x. get_or w x 0) (omega arith) in
    rw (e2, e7, e15, e16)

-- the schedule without its first sixteen words is the schedule of the next sixteen
schedule-drop : (n : ℕ) (b : List ℕ) → length b ≡ 16 → drop 16 (schedule (16 + n) b) ≡ schedule n (drop 16 (schedule 16 b))
unfolding schedule
schedule-drop zero b h = refl
schedule-drop (suc n) b h =
    let V : List ℕ = schedule (16 + n) b in
    ap (λ k. drop 16 (schedule k b)) (add-suc 16 n)
    ∙ drop-append-le 16 V (scheduled (16 + (16 + n)) V ∷ []) (omega (arith, length-schedule (16 + n) b))
    ∙ ap (λ x. drop 16 V ++ x ∷ []) (sym (scheduled-drop 16 (16 + n) V (omega arith)))
    ∙ ap (λ x. x ++ scheduled (16 + n) x ∷ []) (schedule-drop n b h)

step : (n : ℕ) (b : List ℕ) {V : List ℕ} {x : ℕ} → schedule n b ≡ V → x ≡ scheduled (16 + n) V → schedule (suc n) b ≡ V ++ x ∷ []
unfolding schedule
step n b {V} {x} e h = ap (λ y. y ++ scheduled (16 + n) y ∷ []) e ∙ ap (λ y. V ++ y ∷ []) (sym h)

none : (b : List ℕ) → schedule 0 b ≡ b
unfolding schedule
none b = refl

-- the words one by one, on which the schedule computes
abbrev written_out : List ℕ → List ℕ
written_out w = map (λ i. get_or w i 0) (range_with_len 0 16)

written-out-is : (w : List ℕ) → length w ≡ 16 → w ≡ written_out w
written-out-is w h = fill_by_all (λ i. get_or w i 0) w 16 0 h (λ k lt. refl)

next_written_out : (w r : List ℕ) → NextWords w r → schedule 16 (written_out w) ≡ written_out w ++ written_out r
next_written_out w r g =
    let e1 = step 0 (written_out w) (none (written_out w)) g.n0 in
    let e2 = step 1 (written_out w) (e1) g.n1 in
    let e3 = step 2 (written_out w) (e2) g.n2 in
    let e4 = step 3 (written_out w) (e3) g.n3 in
    let e5 = step 4 (written_out w) (e4) g.n4 in
    let e6 = step 5 (written_out w) (e5) g.n5 in
    let e7 = step 6 (written_out w) (e6) g.n6 in
    let e8 = step 7 (written_out w) (e7) g.n7 in
    let e9 = step 8 (written_out w) (e8) g.n8 in
    let e10 = step 9 (written_out w) (e9) g.n9 in
    let e11 = step 10 (written_out w) (e10) g.n10 in
    let e12 = step 11 (written_out w) (e11) g.n11 in
    let e13 = step 12 (written_out w) (e12) g.n12 in
    let e14 = step 13 (written_out w) (e13) g.n13 in
    let e15 = step 14 (written_out w) (e14) g.n14 in
    step 15 (written_out w) e15 g.n15

next_is : (w r : List ℕ) → length w ≡ 16 → length r ≡ 16 → NextWords w r → schedule 16 w ≡ w ++ r
next_is w r hw hr g = ap (schedule 16) (written-out-is w hw) ∙ next_written_out w r g ∙ sym (ap₂ ◌++◌ (written-out-is w hw) (written-out-is r hr))

next_drop : (n : ℕ) (w r : List ℕ) → length w ≡ 16 → length r ≡ 16 → NextWords w r → drop 16 (schedule (16 + n) w) ≡ schedule n r
next_drop n w r hw hr g = schedule-drop n w hw ∙ ap (schedule n) (ap (drop 16) (next_is w r hw hr g) ∙ drop_at w r 16 hw)

rounds-front : (t n : ℕ) (w v : List ℕ) → length w ≡ 16 → rounds_from t 16 (schedule n w) v ≡ rounds_from t 16 w v
rounds-front t n w v h = rounds-same-from t 16 (schedule n w) w v (λ i lt. schedule-front n w i (omega arith))

-- the next window of the schedule X
pub window_next : (X w r : List ℕ) (i : ℕ) → 1 ≤ i → i < 4 → length w ≡ 16 → length r ≡ 16 → NextWords w r → schedule (48 - 16 * (i - 1)) w ≡ drop (16 * (i - 1)) X → schedule (48 - 16 * i) r ≡ drop (16 * i) X
window_next X w r i lo hi hw hr g was =
    let n : ℕ = 48 - 16 * i in
    let long : 48 - 16 * (i - 1) ≡ 16 + n = omega arith in
    let at : 16 * (i - 1) + 16 ≡ 16 * i = omega arith in
    sym (next_drop n w r hw hr g) ∙ ap (λ k. drop 16 (schedule k w)) (sym long) ∙ ap (drop 16) was ∙ drop-drop 16 (16 * (i - 1)) X ∙ ap (λ k. drop k X) at

pub window_same : (X w : List ℕ) (i : ℕ) → schedule (48 - 16 * i) w ≡ drop (16 * i) X → schedule (48 - 16 * (i + 1 - 1)) w ≡ drop (16 * (i + 1 - 1)) X
window_same X w i was =
    let e : i + 1 - 1 ≡ i = omega arith in
    ap (λ k. schedule (48 - 16 * k) w) e ∙ was ∙ ap (λ k. drop (16 * k) X) (sym e)

-- sixteen rounds more
pub rounds-turn : (X w h v r : List ℕ) (i n : ℕ) → length w ≡ 16 → schedule n w ≡ drop (16 * i) X → v ≡ rounds (16 * i) X h → r ≡ rounds_from (16 * i) 16 w v → r ≡ rounds (16 * (i + 1)) X h
rounds-turn X w h v r i n hw win ev er =
    let t : ℕ = 16 * i in
    let at : t + 16 ≡ 16 * (i + 1) = omega arith in
    er ∙ sym (rounds-front t n w v hw) ∙ ap₂ (rounds_from t 16) win ev ∙ sym (rounds-from t 16 X h) ∙ ap (λ k. rounds k X h) at

pub rounds-none : (X h : List ℕ) → h ≡ rounds 0 X h
unfolding rounds
rounds-none X h = refl

pub compressed-is : (h w v : List ℕ) (i : ℕ) → i ≡ 4 → v ≡ rounds (16 * i) (schedule 48 w) h → sum_words h v ≡ compressed h w
unfolding compressed
compressed-is h w v i e ev = ap (sum_words h) (ev ∙ ap (λ k. rounds (16 * k) (schedule 48 w) h) e)
