-- One word more among the words that are kept.
use Rattle.std.proofs.Common.{◌≡◌, ℕ, ◌+◌, ◌<◌, ◌≤◌, List, [], ◌∷◌, ◌++◌, length, take, set, sym, ap, ◌∙◌, ap₂, arith}
use Rattle.std.proofs.lemmas.List.{take_more_set, take_all, take-append-le, map_push, length_push}
use Rattle.field.specs.declared.gf1024.Gf1024.{Gf1024}
use Rattle.checksum.specs.Values.{values}

-- there is room for it
pub pushed : (es : List Gf1024) (e : Gf1024) (v : ℕ) (ws : List ℕ) → length es ≡ 59 → length ws < 59 → e.value ≡ v
    → values (take (length ws) es) ≡ take 59 ws → values (take (length (ws ++ (v ∷ []))) (set es (length ws) e)) ≡ take 59 (ws ++ (v ∷ []))
pushed es e v ws size h is first =
    let n = length ws in
    let more : length (ws ++ (v ∷ [])) ≡ n + 1 = length_push ws v in
    ap (λ m. values (take m (set es n e))) more
    ∙ ap values (take_more_set es n e (omega arith))
    ∙ map_push (λ a. a.value) (take n es) e
    ∙ ap₂ (λ l x. l ++ (x ∷ [])) (first ∙ take_all 59 ws (omega arith)) is
    ∙ sym (take_all 59 (ws ++ (v ∷ [])) (omega arith))

-- 59 are kept already
pub passed : (es : List Gf1024) (v : ℕ) (ws : List ℕ) → length es ≡ 59 → 59 ≤ length ws
    → values (take (length ws) es) ≡ take 59 ws → values (take (length (ws ++ (v ∷ []))) es) ≡ take 59 (ws ++ (v ∷ []))
passed es v ws size h first =
    let more : length (ws ++ (v ∷ [])) ≡ length ws + 1 = length_push ws v in
    ap values (take_all (length (ws ++ (v ∷ []))) es (omega arith) ∙ sym (take_all (length ws) es (omega arith)))
    ∙ first ∙ sym (take-append-le 59 ws (v ∷ []) h)
