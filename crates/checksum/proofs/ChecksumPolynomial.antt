-- The polynomial of a card, and its value by Horner's rule.
use Rattle.std.proofs.Common.{◌≡◌, ℕ, ◌+◌, ◌<◌, Bool, List, [], ◌∷◌, ◌++◌, map, length, get_or, drop, sym, refl, ap, ◌∙◌, ap₂, add-one, drop-cons}
use Rattle.std.specs.List.{fold}
use Rattle.std.proofs.lemmas.List.{map-append}
use Rattle.std.proofs.lemmas.List.Sums.{fold-append}
use Rattle.field.specs.declared.gf1024.Gf1024.{Gf1024}
use Rattle.field.specs.Gf1024.{element, sum, product}
use Rattle.field.specs.Polynomial.{value_at}
use Rattle.field.specs.Gf1024Laws.{element-value, laws}
use Rattle.field.proofs.Horner.{after, after-value}
use Rattle.checksum.specs.Values.{values}
use Rattle.checksum.specs.Checksum.{customization, coefficients}

-- the value at x of `value`, followed by the coefficients
abbrev pub at : Gf1024 → Gf1024 → List Gf1024 → Gf1024
at = after sum product

abbrev pub val : Gf1024 → List Gf1024 → Gf1024
val = value_at (element 0) (element 1) sum product

pub elements-values : (ws : List Gf1024) → map element (values ws) ≡ ws
elements-values [] = refl
elements-values (w ∷ ws) = ap₂ ◌∷◌ (element-value w) (elements-values ws)

abbrev pub front : Bool → List Gf1024
front extendable = map element (customization extendable)

pub val-words : (x : Gf1024) (extendable : Bool) (ns : List ℕ)
    → val x (coefficients extendable ns) ≡ at x (at x (element 1) (front extendable)) (map element ns)
val-words x extendable ns =
    ap (λ l. val x (element 1 ∷ l)) (map-append element (customization extendable) ns)
    ∙ sym (after-value laws x (element 1) (front extendable ++ map element ns))
    ∙ fold-append _ (element 1) (front extendable) (map element ns)

-- words as elements
pub words-value : (x : Gf1024) (extendable : Bool) (ws : List Gf1024)
    → val x (coefficients extendable (values ws)) ≡ at x (at x (element 1) (front extendable)) ws
words-value x extendable ws = val-words x extendable (values ws) ∙ ap (at x (at x (element 1) (front extendable))) (elements-values ws)

pub next_number : (l : List ℕ) (i : ℕ) → i < length l → drop i l ≡ get_or l i 0 ∷ drop (i + 1) l
next_number l i h = drop-cons l i 0 h ∙ ap (λ n. get_or l i 0 ∷ drop n l) (sym (add-one i))

-- byte by byte
pub bytes_value : (x v : Gf1024) (ns : List ℕ) → fold (λ v n. val x (v ∷ element n ∷ [])) v ns ≡ at x v (map element ns)
bytes_value x v [] = refl
bytes_value x v (n ∷ ns) =
    ap (λ y. fold (λ v n. val x (v ∷ element n ∷ [])) y ns) (sym (after-value laws x v (element n ∷ [])))
    ∙ bytes_value x (sum (element n) (product x v)) ns
