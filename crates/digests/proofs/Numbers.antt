-- What the library reads as a number is what the definition says.
use Rattle.std.proofs.Common.{◌≡◌, ℕ, ◌^◌, true, ltb, List, length, Ok, Err, Some, None, Result, sym, ap, ◌∙◌, inl, inr}
use Rattle.std.proofs.lemmas.Bool.{and_from, and_parts, cases_Bool, cond-true, cond-false, lt-ltb, ltb-true}
use Rattle.std.proofs.lemmas.Str.Parse.{IsNumeralModel, numerals_by_value, tells_all_ascii_digits}
use Rattle.std.specs.Result.{result_ok}
use Rattle.std.specs.Str.{all_ascii_digits}
use Rattle.std.specs.Str.Parse.{digits_value, without_leading_plus, ParsesUnsigned}
use Rattle.digests.specs.Data.{is_number, number_in}

own : IsNumeralModel (λ ds. all_ascii_digits ds ≡ true) (digits_value 10)
own = numerals_by_value _ tells_all_ascii_digits

module _ (k : ℕ) (bs : List ℕ) where
  abbrev digits : List ℕ
  digits = without_leading_plus bs

  pub parsed : {E : Type 0} (r : Result ℕ E) → ParsesUnsigned k 10 bs r → result_ok r ≡ number_in k bs
  parsed (Ok n) h =
      ap Some h.1
      ∙ sym (cond-true (is_number k digits) (Some (digits_value 10 digits)) None
      (and_from _ _ (lt-ltb 0 (length digits) h.0.0.0) (and_from _ _ (own.from digits h.0.0.1) (lt-ltb (digits_value 10 digits) (2 ^ k) h.0.1))))
  parsed (Err e) h =
      elim (cases_Bool (is_number k digits)) [
        | inl is ↦
            let parts = and_parts (ltb 0 (length digits)) _ is in
            let more = and_parts (all_ascii_digits digits) _ parts.1 in
            absurd (h ((ltb-true 0 (length digits) parts.0, own.to digits more.0), ltb-true (digits_value 10 digits) (2 ^ k) more.1))
        | inr not ↦ sym (cond-false (is_number k digits) (Some (digits_value 10 digits)) None not)
      ]
