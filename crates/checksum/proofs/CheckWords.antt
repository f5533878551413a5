-- The check words of numbers: they make the words right, and no others do.
use Rattle.std.proofs.Common.{◌≡◌, ℕ, Bool, true, List, [], ◌∷◌, ◌++◌, map, length, sym, refl, ap, ◌∙◌, subst, ap₂, mod-eq_of_lt, arith}
use Rattle.std.specs.Int.Digits.{AllBelowBase}
use Rattle.std.proofs.lemmas.List.{map-append}
use Rattle.field.specs.declared.gf1024.Gf1024.{Gf1024}
use Rattle.field.specs.Gf1024.{element}
use Rattle.checksum.specs.Values.{values}
use Rattle.checksum.specs.Checksum.{customization, is_right, check_words_of}
use Rattle.checksum.proofs.ChecksumPolynomial.{front}
use Rattle.checksum.proofs.ChecksumRemainder.{divided, remainder-divided, three-left, is_right-ones, ones_is_right}
use Rattle.checksum.proofs.ChecksumWords as W

pub small_values : (ws : List Gf1024) → AllBelowBase 1024 (values ws)
small_values [] = tt
small_values (w ∷ ws) = (w.bound, small_values ws)

pub values-elements : (ns : List ℕ) → AllBelowBase 1024 ns → values (map element ns) ≡ ns
values-elements [] h = refl
values-elements (n ∷ ns) h = ap₂ ◌∷◌ (mod-eq_of_lt h.0) (values-elements ns h.1)

module _ (e : Bool) (ns : List ℕ) (small : AllBelowBase 1024 ns) where
  ws : List Gf1024
  ws = map element ns

  left : (u : Gf1024) × (v : Gf1024) × (w : Gf1024) × (u ∷ v ∷ w ∷ [] ≡ divided (element 0) (element 0) (element 1) (front e ++ (ws ++ W.zeros)))
  left =
      let z = element 0 in
      let one = element 1 in
      let cs = front e ++ (ws ++ W.zeros) in
      let t = three-left z z one cs in
      (t.0, t.1, t.2, sym t.3 ∙ remainder-divided z z one cs)

  check : List Gf1024
  check = W.check e ws left.0 left.1 left.2 left.3

  check-is : values check ≡ check_words_of (customization e ++ ns)
  unfolding ws check left
  check-is = W.check-value e ws left.0 left.1 left.2 left.3 ∙ ap (λ l. check_words_of (customization e ++ l)) (values-elements ns small)

  joined : (cs : List Gf1024) → values (ws ++ cs) ≡ ns ++ values cs
  unfolding ws
  joined cs = map-append (λ a. a.value) (map element ns) cs ∙ ap (λ l. l ++ values cs) (values-elements ns small)

  pub checked_right : is_right e (ns ++ check_words_of (customization e ++ ns)) ≡ true
  unfolding ws check left
  checked_right =
      subst (λ l. is_right e l ≡ true) (joined check ∙ ap (λ l. ns ++ l) check-is)
      (ones_is_right e (values (ws ++ check)) (W.check-ones e ws left.0 left.1 left.2 left.3))

  pub three-checks : length (check_words_of (customization e ++ ns)) ≡ 3
  unfolding ws check left
  three-checks = ap length (sym check-is)

  pub small_checks : AllBelowBase 1024 (check_words_of (customization e ++ ns))
  unfolding ws check left
  small_checks = subst (AllBelowBase 1024) check-is (small_values check)

  pub only-checks : (cs : List ℕ) → length cs ≡ 3 → AllBelowBase 1024 cs → is_right e (ns ++ cs) ≡ true → cs ≡ check_words_of (customization e ++ ns)
  unfolding ws check left
  only-checks [] l h r = absurd (omega arith)
  only-checks (a ∷ []) l h r = absurd (omega arith)
  only-checks (a ∷ b ∷ []) l h r = absurd (omega arith)
  only-checks (a ∷ b ∷ c ∷ d ∷ cs) l h r = absurd (omega arith)
  only-checks (a ∷ b ∷ c ∷ []) l h r =
      let es = element a ∷ element b ∷ element c ∷ [] in
      let back : values es ≡ a ∷ b ∷ c ∷ [] = values-elements (a ∷ b ∷ c ∷ []) h in
      let ones = is_right-ones e (values (ws ++ es)) (subst (λ x. is_right e x ≡ true) (sym (joined es ∙ ap (λ x. ns ++ x) back)) r) in
      sym back ∙ ap values (W.check-only e ws left.0 left.1 left.2 left.3 (element a) (element b) (element c) ones) ∙ check-is
