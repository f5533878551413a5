-- A chain of digests is what PBKDF2 combines.
use Rattle.std.proofs.Common.{◌≡◌, ℕ, zero, suc, ◌-◌, ◌≤◌, List, length, take, refl, ap, ◌∙◌, ap₂, arith}
use Rattle.std.proofs.lemmas.List.{take_all}
use Rattle.digest.specs.Keyed.{last_link, chain_total, xors}
use Rattle.cipher.specs.Stretching.{iterated, combined}

module _ (f : List ℕ → List ℕ) (text : List ℕ) where
  link_is : (n : ℕ) → last_link f (f text) n ≡ iterated f text (suc n)
  unfolding last_link iterated
  link_is zero = refl
  link_is (suc n) = ap f (link_is n)

  total_is : (n : ℕ) → chain_total f (f text) (f text) n ≡ combined f text (suc n)
  unfolding chain_total combined iterated
  total_is zero = refl
  total_is (suc n) = ap₂ xors (total_is n) (link_is (suc n))

  -- U_1 in both spaces, and the chain of the others; L is the length of a digest
  pub chain_combined : (L c : ℕ) (link total : List ℕ) → 1 ≤ c → link ≡ f text → total ≡ link → length link ≡ L →
      chain_total f (take L link) (take L total) (c - 1) ≡ combined f text c
  chain_combined L c link total h el et long =
      let first : take L link ≡ f text = take_all L link (omega arith) ∙ el in
      let same : take L total ≡ f text = ap (take L) et ∙ first in
      let count : suc (c - 1) ≡ c = omega arith in
      ap₂ (λ x y. chain_total f x y (c - 1)) first same ∙ total_is (c - 1) ∙ ap (combined f text) count
