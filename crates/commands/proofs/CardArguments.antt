-- The fields of a card, one argument after the other.
use Rattle.std.proofs.Common.{◌≡◌, ℕ, zero, suc, Bool, true, false, cond, eqb, List, [], ◌∷◌, length, get_or, Some, None, Option, Bor, is_some, sym, refl, ap, ◌∙◌, ◌<◌, arith}
use Rattle.std.proofs.lemmas.Bool.{and_left, and_right, and_from, cond-true, cond-false, eq-eqb, ne_eqb, true≢false}
use Rattle.std.proofs.lemmas.List.Splits.{length-slice_split}
use Rattle.std.specs.Option.{option_map}
use Rattle.reader.specs.Card.{Fields}
use Rattle.commands.specs.Arguments.{texts_in, argument_at, number_in, is_number, number_from, is_value, value_from, card_tests, all_pass, card_fields, fields_from}
use Rattle.commands.proofs.DecimalNumbers.{some-passed}

one-fails : (ts : List Bool) (k : ℕ) → get_or ts k true ≡ false → all_pass ts ≡ false
one-fails [] k e = absurd (true≢false e)
one-fails (t ∷ ts) zero e = and_left t (all_pass ts) e
one-fails (t ∷ ts) (suc k) e = and_right t (all_pass ts) (one-fails ts k e)

module _ (texts : List (List ℕ)) where
  pub misfit : (k : ℕ) → get_or (card_tests texts) k true ≡ false → None ≡ fields_from texts
  misfit k e = sym (cond-false (all_pass (card_tests texts)) (Some (card_fields texts)) None (one-fails (card_tests texts) k e))

  pub too_many : 9 < length texts → None ≡ fields_from texts
  too_many h = misfit 0 (ne_eqb (length texts) 9 (λ e. omega arith))

  pub fits : (f : Fields) → length texts ≡ 9
      → Some f.identifier ≡ number_from 0 32767 (argument_at texts 0)
      → Some f.extendable ≡ cond (is_number 0 1 (argument_at texts 1)) (Some (eqb (number_in (argument_at texts 1)) 1)) None
      → Some f.exponent ≡ number_from 0 15 (argument_at texts 2)
      → Some f.group ≡ number_from 0 15 (argument_at texts 3)
      → Some f.group_threshold ≡ number_from 1 16 (argument_at texts 4)
      → Some f.group_count ≡ number_from 1 16 (argument_at texts 5)
      → Some f.member ≡ number_from 0 15 (argument_at texts 6)
      → Some f.member_threshold ≡ number_from 1 16 (argument_at texts 7)
      → Some f.value ≡ value_from (argument_at texts 8)
      → Some f ≡ fields_from texts
  fits f nine e0 e1 e2 e3 e4 e5 e6 e7 e8 =
      let p0 = some-passed (is_number 0 32767 (argument_at texts 0)) _ _ e0 in
      let p1 = some-passed (is_number 0 1 (argument_at texts 1)) _ _ e1 in
      let p2 = some-passed (is_number 0 15 (argument_at texts 2)) _ _ e2 in
      let p3 = some-passed (is_number 0 15 (argument_at texts 3)) _ _ e3 in
      let p4 = some-passed (is_number 1 16 (argument_at texts 4)) _ _ e4 in
      let p5 = some-passed (is_number 1 16 (argument_at texts 5)) _ _ e5 in
      let p6 = some-passed (is_number 0 15 (argument_at texts 6)) _ _ e6 in
      let p7 = some-passed (is_number 1 16 (argument_at texts 7)) _ _ e7 in
      let p8 = some-passed (is_value (argument_at texts 8)) _ _ e8 in
      let all : all_pass (card_tests texts) ≡ true =
      and_from _ _ (eq-eqb (length texts) 9 nine) (and_from _ _ p0.0 (and_from _ _ p1.0 (and_from _ _ p2.0 (and_from _ _ p3.0
      (and_from _ _ p4.0 (and_from _ _ p5.0 (and_from _ _ p6.0 (and_from _ _ p7.0 (and_from _ true p8.0 refl))))))))) in
      let same : f ≡ card_fields texts =
      λ i. record {
        identifier = p0.1 i;
        extendable = p1.1 i;
        exponent = p2.1 i;
        group = p3.1 i;
        group_threshold = p4.1 i;
        group_count = p5.1 i;
        member = p6.1 i;
        member_threshold = p7.1 i;
        value = p8.1 i;
      } in
      ap Some same ∙ sym (cond-true (all_pass (card_tests texts)) (Some (card_fields texts)) None all)

-- the texts after the last one that was taken
module _ (o : Option (Bor (List ℕ))) where
  pub no_texts : is_some o ≡ false → texts_in (option_map (λ x. x.now) o) ≡ []
  no_texts e = none o e
    where
      none : (q : Option (Bor (List ℕ))) → is_some q ≡ false → texts_in (option_map (λ x. x.now) q) ≡ []
      none None e = refl
      none (Some x) e = absurd (true≢false e)

  pub some_texts : is_some o ≡ true → 0 < length (texts_in (option_map (λ x. x.now) o))
  some_texts e = more o e
    where
      more : (q : Option (Bor (List ℕ))) → is_some q ≡ true → 0 < length (texts_in (option_map (λ x. x.now) q))
      more None e = absurd (true≢false (sym e))
      more (Some x) e = omega (arith, length-slice_split (λ b. eqb b 32) x.now)
