-- One digest more in a chain of digests.
use Rattle.std.proofs.Common.{◌≡◌, ℕ, zero, suc, ◌+◌, ◌≤◌, List, ◌++◌, length, take, drop, sym, refl, ap, ◌∙◌, ap₂, add-one}
use Rattle.std.proofs.lemmas.List.{take_at, drop_at, length-take-le}
use Rattle.digest.specs.Keyed.{last_link, chain_total, xors}
use Rattle.digest.proofs.Xors.{length-xors}

module _ (f : List ℕ → List ℕ) (link : List ℕ) where
  pub link_none : last_link f link 0 ≡ link
  unfolding last_link
  link_none = refl

  pub link_more : (n : ℕ) → last_link f link (n + 1) ≡ f (last_link f link n)
  unfolding last_link
  link_more n = ap (last_link f link) (add-one n)

  pub length-link : (L : ℕ) → ((m : List ℕ) → length (f m) ≡ L) → length link ≡ L → (n : ℕ) → length (last_link f link n) ≡ L
  unfolding last_link
  length-link L sized h zero = h
  length-link L sized h (suc n) = sized (last_link f link n)

  pub total_none : (total : List ℕ) → chain_total f link total 0 ≡ total
  unfolding chain_total
  total_none total = refl

  pub total_more : (total : List ℕ) (n : ℕ) → chain_total f link total (n + 1) ≡ xors (chain_total f link total n) (last_link f link (n + 1))
  unfolding chain_total
  total_more total n = rw add-one

  pub length-total : (total : List ℕ) (n : ℕ) → length (chain_total f link total n) ≡ length total
  unfolding chain_total
  length-total total zero = refl
  length-total total (suc n) = length-xors (chain_total f link total n) (last_link f link (suc n)) ∙ length-total total n

-- a chain in the fronts of two spaces; L is the length of a digest, and s another name for it
module _ (f : List ℕ → List ℕ) (L s : ℕ) (same : s ≡ L) (sized : (m : List ℕ) → length (f m) ≡ L) (link0 total0 : List ℕ) (room : s ≤ length link0) (room2 : s ≤ length total0) where
  abbrev link_at : ℕ → List ℕ
  link_at n = last_link f (take L link0) n

  abbrev total_at : ℕ → List ℕ
  total_at n = chain_total f (take L link0) (take L total0) n

  long-link : (n : ℕ) → length (link_at n) ≡ L
  long-link n = length-link f (take L link0) L sized (length-take-le L link0 (rw (sym same) room)) n

  long-total : (n : ℕ) → length (total_at n) ≡ L
  long-total n = length-total f (take L link0) (take L total0) n ∙ length-take-le L total0 (rw (sym same) room2)

  -- the digest of the link, in front of another space
  pub next_is : (n : ℕ) (link next : List ℕ) (m : ℕ) (rest : List ℕ) → link ≡ link_at n ++ drop L link0 → next ≡ f (take s link) ++ drop m rest → take s next ≡ link_at (n + 1)
  next_is n link next m rest el en =
      let front : take s link ≡ link_at n = ap₂ take same el ∙ take_at (link_at n) (drop L link0) L (long-link n) in
      ap₂ take same en ∙ take_at (f (take s link)) (drop m rest) L (sized (take s link)) ∙ ap f front ∙ sym (link_more f (take L link0) n)

  pub link_step : (n : ℕ) (link d : List ℕ) → link ≡ link_at n ++ drop L link0 → d ≡ link_at (n + 1) → d ++ drop s link ≡ link_at (n + 1) ++ drop L link0
  link_step n link d el ed = ap₂ ◌++◌ ed (ap₂ drop same el ∙ drop_at (link_at n) (drop L link0) L (long-link n))

  pub total_step : (n : ℕ) (total d : List ℕ) → total ≡ total_at n ++ drop L total0 → d ≡ link_at (n + 1) → xors (take s total) d ++ drop s total ≡ total_at (n + 1) ++ drop L total0
  total_step n total d et ed =
      ap₂ ◌++◌
      (ap₂ xors (ap₂ take same et ∙ take_at (total_at n) (drop L total0) L (long-total n)) ed ∙ sym (total_more f (take L link0) (take L total0) n))
      (ap₂ drop same et ∙ drop_at (total_at n) (drop L total0) L (long-total n))
