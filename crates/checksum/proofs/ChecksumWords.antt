-- The remainder of the words and three zeros, plus 1, makes the words right, and nothing else does.
use Rattle.std.proofs.Common.{◌≡◌, suc, Bool, true, false, List, [], ◌∷◌, ◌++◌, map, length, drop, sym, refl, ap, ◌∙◌, append_assoc, lit≤}
use Rattle.std.proofs.lemmas.List.{map-append}
use Rattle.std.proofs.lemmas.List.Sums.{fold-append}
use Rattle.field.specs.declared.gf1024.Gf1024.{Gf1024}
use Rattle.field.specs.Gf1024.{element, sum, product}
use Rattle.field.specs.Polynomial.{divide_steps, plus_constant}
use Rattle.field.specs.Gf1024Laws.{laws}
use Rattle.field.proofs.PolynomialDivision as Division
use Rattle.field.proofs.SparsePolynomial.{sparse_short}
use Rattle.checksum.specs.declared.Remainder.{Remainder}
use Rattle.checksum.specs.Values.{values}
use Rattle.checksum.specs.Checksum.{customization, coefficients, left, remainder_of, check_words_of}
use Rattle.checksum.proofs.ChecksumPolynomial.{at, val, front, elements-values, words-value}
use Rattle.checksum.proofs.ChecksumRoots.{Ones, no_difference}
use Rattle.checksum.proofs.ChecksumRemainder.{generator, divided, remainder-divided, one_value, Root, root_2, root_4, root_8}

abbrev pub zeros : List Gf1024
zeros = element 0 ∷ element 0 ∷ element 0 ∷ []

-- ---- the division goes on from what is left
abbrev onwards : List Gf1024 → List Gf1024 → List Gf1024
onwards left cs = divide_steps sum product generator (length cs) (left ++ cs)

pub divided-append : (p q r : Gf1024) (cs ds : List Gf1024) (u v w : Gf1024) → u ∷ v ∷ w ∷ [] ≡ divided p q r cs → divided u v w ds ≡ divided p q r (cs ++ ds)
divided-append p q r [] ds u v w e = ap (λ l. onwards l ds) e
divided-append p q r (c ∷ cs) ds u v w e =
    divided-append (sum q (product p (element 14))) (sum r (product p (element 56))) (sum c (product p (element 64))) cs ds u v w e

-- one step more
pub one-step : (p q r c : Gf1024) (cs : List Gf1024) (u v w : Gf1024) → u ∷ v ∷ w ∷ [] ≡ remainder_of (p ∷ q ∷ r ∷ c ∷ []) → divided p q r (c ∷ cs) ≡ divided u v w cs
one-step p q r c cs u v w e = sym (divided-append p q r (c ∷ []) cs u v w (e ∙ remainder-divided p q r (c ∷ [])))

-- one coefficient more
pub one_more : (p q r c : Gf1024) (cs : List Gf1024) (a b : Remainder) → left a ≡ divided p q r cs → left b ≡ remainder_of (left a ++ (c ∷ []))
    → left b ≡ divided p q r (cs ++ (c ∷ []))
one_more p q r c cs a b so more =
    more ∙ remainder-divided a.high a.middle a.low (c ∷ []) ∙ divided-append p q r cs (c ∷ []) a.high a.middle a.low so

-- two zeros before the first coefficient
leading_zeros : (a c d : Gf1024) (ds : List Gf1024) → divided (element 0) (element 0) a (c ∷ d ∷ ds) ≡ divided a c d ds
leading_zeros a c d ds =
    Division.steps-zero laws (element 1) (element 14 ∷ element 56 ∷ element 64 ∷ []) (suc (length ds)) (element 0 ∷ a ∷ c ∷ d ∷ ds)
    ∙ Division.steps-zero laws (element 1) (element 14 ∷ element 56 ∷ element 64 ∷ []) (length ds) (a ∷ c ∷ d ∷ ds)

no_zeros : (c d : Gf1024) (ds : List Gf1024)
    → divided (element 0) (element 0) (element 1) (c ∷ d ∷ ds) ≡ remainder_of (element 1 ∷ c ∷ d ∷ ds)
no_zeros c d ds = leading_zeros (element 1) c d ds ∙ sym (remainder-divided (element 1) c d ds)

pub with_zeros : (extendable : Bool) (cs : List Gf1024)
    → divided (element 0) (element 0) (element 1) (front extendable ++ cs) ≡ remainder_of (element 1 ∷ (front extendable ++ cs))
with_zeros true cs = no_zeros (element 115) (element 104) (map element (drop 2 (customization true)) ++ cs)
with_zeros false cs = no_zeros (element 115) (element 104) (map element (drop 2 (customization false)) ++ cs)

module _ (extendable : Bool) (ws : List Gf1024) (u v w : Gf1024)
    (is : u ∷ v ∷ w ∷ [] ≡ divided (element 0) (element 0) (element 1) (front extendable ++ (ws ++ zeros))) where
  abbrev pub check : List Gf1024
  check = u ∷ v ∷ sum w (element 1) ∷ []

  all-elements : map element ((customization extendable ++ values ws) ++ (0 ∷ 0 ∷ 0 ∷ [])) ≡ front extendable ++ (ws ++ zeros)
  all-elements =
      map-append element (customization extendable ++ values ws) (0 ∷ 0 ∷ 0 ∷ [])
      ∙ ap (λ l. l ++ zeros) (map-append element (customization extendable) (values ws) ∙ ap (λ l. front extendable ++ l) (elements-values ws))
      ∙ append_assoc (front extendable) ws zeros

  pub check-value : values check ≡ check_words_of (customization extendable ++ values ws)
  check-value =
      ap (λ l. values (plus_constant sum (element 1) l))
      (is ∙ with_zeros extendable (ws ++ zeros) ∙ ap (λ l. remainder_of (element 1 ∷ l)) (sym all-elements))

  -- the value at x of the words, with 1 and the customization string before them
  abbrev state : Gf1024 → Gf1024
  state x = at x (at x (element 1) (front extendable)) ws

  state-value : (x : Gf1024) (rest : List Gf1024) → val x (coefficients extendable (values (ws ++ rest))) ≡ at x (state x) rest
  state-value x rest =
      words-value x extendable (ws ++ rest) ∙ fold-append _ (at x (element 1) (front extendable)) ws rest

  left-value : (x : Gf1024) → Root x → at x (element 0) (u ∷ v ∷ w ∷ []) ≡ at x (state x) zeros
  left-value x h =
      ap (at x (element 0)) is
      ∙ Division.steps-value laws x (element 1) (element 14) (element 56) (element 64) h (element 0) (element 0) (element 1) (front extendable ++ (ws ++ zeros))
      ∙ ap (λ y. at x y (front extendable ++ (ws ++ zeros))) (one_value x)
      ∙ fold-append _ (element 1) (front extendable) (ws ++ zeros)
      ∙ fold-append _ (at x (element 1) (front extendable)) ws zeros

  check-one : (x : Gf1024) → Root x → at x (state x) check ≡ element 1
  check-one x h = Division.closes laws x (state x) u v w (element 1) (left-value x h)

  pub check-ones : Ones (coefficients extendable (values (ws ++ check)))
  check-ones = record {
    at_2 = state-value (element 2) check ∙ check-one (element 2) root_2;
    at_4 = state-value (element 4) check ∙ check-one (element 4) root_4;
    at_8 = state-value (element 8) check ∙ check-one (element 8) root_8;
  }

  pub check-only : (a b c : Gf1024) → Ones (coefficients extendable (values (ws ++ (a ∷ b ∷ c ∷ [])))) → a ∷ b ∷ c ∷ [] ≡ check
  check-only a b c o =
      let others = a ∷ b ∷ c ∷ [] in
      no_difference state others check refl (lit≤ tt) (sparse_short _)
      (sym (state-value (element 2) others) ∙ o.at_2 ∙ sym (check-one (element 2) root_2))
      (sym (state-value (element 4) others) ∙ o.at_4 ∙ sym (check-one (element 4) root_4))
      (sym (state-value (element 8) others) ∙ o.at_8 ∙ sym (check-one (element 8) root_8))
