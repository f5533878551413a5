-- An array whose bytes past a count are zero is told by those before it.
use Rattle.std.specs.Prelude.{ℕ, ◌-◌, ◌≤◌, ◌≡◌, List, ◌++◌, length, take, drop, replicate}
use Rattle.std.proofs.Common.{◌∙◌, ap, sym}
use Rattle.std.proofs.lemmas.List.{length-take-le, take-append-drop}

pub counted : (count : ℕ) (array : List ℕ) → count ≤ length array → length (take count array) ≡ count
counted count array h = length-take-le count array h

pub padded : (n count : ℕ) (array : List ℕ) → count ≤ length array → drop count array ≡ replicate (n - count) 0 → take count array ++ replicate (n - length (take count array)) 0 ≡ array
padded n count array h k =
    ap (λ c. take count array ++ replicate (n - c) 0) (counted count array h)
    ∙ ap (λ d. take count array ++ d) (sym k)
    ∙ take-append-drop count array
