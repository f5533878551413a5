-- What a keyed digest answers and writes where nothing is refused.
use Rattle.std.proofs.Common.{◌≡◌, ℕ, ◌≤◌, List, ◌++◌, length, drop, Ok, Result, ap, ◌∙◌, arith, le-ltb}
use Rattle.std.proofs.lemmas.List.{drop_all, append-nil}
use Rattle.refusal.specs.declared.Refusal.{Refusal}
use Rattle.digest.specs.Keyed.{digest_answer, chain_answer, written}

pub digest_ok : (size : ℕ) (key message space : List ℕ) → length key ≤ 65536 → length message ≤ 65536 → size ≤ length space → digest_answer size key message space ≡ Ok size
digest_ok size key message space hk hm hs = rw (le-ltb 65536 (length key) hk, le-ltb 65536 (length message) hm, le-ltb (length space) size hs)

pub chain_ok : (size : ℕ) (key link total : List ℕ) → length key ≤ 65536 → size ≤ length link → size ≤ length total → chain_answer size key link total ≡ Ok size
chain_ok size key link total hk hl ht = rw (le-ltb 65536 (length key) hk, le-ltb (length link) size hl, le-ltb (length total) size ht)

-- with success the result stands in front of the space
pub written-ok : (r : Result ℕ Refusal) (n : ℕ) (result space after : List ℕ) → r ≡ Ok n → after ≡ written r result space → after ≡ result ++ drop n space
written-ok r n result space after e h = h ∙ ap (λ x. written x result space) e

-- a space as long as the result holds nothing else then
pub written-whole : (r : Result ℕ Refusal) (n : ℕ) (result space after : List ℕ) → r ≡ Ok n → length space ≤ n → after ≡ written r result space → after ≡ result
written-whole r n result space after e l h = written-ok r n result space after e h ∙ ap (λ x. result ++ x) (drop_all n space l) ∙ append-nil result

pub digest_whole : (size : ℕ) (key message space result after : List ℕ) (r : Result ℕ Refusal) → length key ≤ 65536 → length message ≤ 65536 → length space ≡ size →
    r ≡ digest_answer size key message space → after ≡ written r result space → after ≡ result
digest_whole size key message space result after r hk hm hs a w =
    written-whole r size result space after (a ∙ digest_ok size key message space hk hm (omega arith)) (omega arith) w

pub chain_whole : (size : ℕ) (key link total space result after : List ℕ) (r : Result ℕ Refusal) → length key ≤ 65536 → length link ≡ size → length total ≡ size → length space ≡ size →
    r ≡ chain_answer size key link total → after ≡ written r result space → after ≡ result
chain_whole size key link total space result after r hk hl ht hs a w =
    written-whole r size result space after (a ∙ chain_ok size key link total hk (omega arith) (omega arith)) (omega arith) w
