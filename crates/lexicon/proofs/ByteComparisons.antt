-- The library's comparisons of slices are those of the definitions.
use Rattle.std.proofs.Common.{◌≡◌, ℕ, Bool, List, Some, refl, ◌∙◌, arith}
use Rattle.std.specs.List.{starts_with}
use Rattle.std.specs.Ordering.{nat_cmp, is_lt, is_some_and}
use Rattle.std.specs.Cmp.Lexicographic.{slice_partial_cmp}
use Rattle.std.specs.Prelude.{nat_eq}
use Rattle.std.proofs.lemmas.Cmp.{same_from_slice_cmp_tested}
use Rattle.std.proofs.lemmas.Bool.Decides.{nat_tests}
use Rattle.lexicon.specs.ByteOrder.{comes_before}
use Rattle.lexicon.specs.Lexicon.{begins_with}
use Rattle.lexicon.specs.Lookup.{starts_is_begins}

pub before_decided : (left right : List ℕ) (r : Bool) → r ≡ is_some_and is_lt (slice_partial_cmp (λ x y. Some (nat_cmp x y)) left right) → r ≡ comes_before left right
before_decided = same_from_slice_cmp_tested nat_cmp is_lt comes_before refl (λ _ _. refl) (λ _ _. refl) (λ x y xs ys o h. grind (arith, nat_tests))

pub begins_decided : (word bytes : List ℕ) (r : Bool) → r ≡ starts_with nat_eq word bytes → r ≡ begins_with word bytes
begins_decided word bytes r e = e ∙ starts_is_begins word bytes
