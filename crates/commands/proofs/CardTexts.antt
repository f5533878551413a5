-- The text of a card as it is written into a space that is long enough.
use Rattle.std.proofs.Common.{◌≡◌, ℕ, ◌-◌, ◌<◌, ◌≤◌, Bool, true, false, ◌||◌, T, eqb, leb, List, length, take, drop, is_ok, Ok, Err, IsUtf8, Result, sym, refl, ap, ◌∙◌, arith, MatchResult}
use Rattle.std.proofs.ByRecursion.{IsAscii-from_all, All-weaker}
use Rattle.std.proofs.lemmas.List.{take_at}
use Rattle.std.proofs.lemmas.Bool.{cond-true, le-leb}
use Rattle.std.proofs.lemmas.Str.{IsUtf8-from_ascii}
use Rattle.std.proofs.lemmas.Bool.Decides.{nat_tests}
use Rattle.refusal.specs.declared.Refusal.{Refusal}
use Rattle.lexicon.specs.Letters.{is_letter}
use Rattle.reader.specs.Writing.{Plain, count_or_refusal, space_after}

passes : (t : Bool) → T t → t ≡ true
passes true h = refl
passes false h = absurd h

ascii : (b : ℕ) → (is_letter b || eqb b 32) ≡ true → b < 128
ascii b e = grind (arith, nat_tests)

pub plain_utf8 : (text : List ℕ) → Plain text → IsUtf8 text
plain_utf8 text h =
    IsUtf8-from_ascii text
    (IsAscii-from_all text (All-weaker (λ b. T (is_letter b || eqb b 32)) (λ b. b < 128) (λ b t. ascii b (passes (is_letter b || eqb b 32) t)) text h))

module _ (text space : List ℕ) (room : length text ≤ length space) where
  pub fits-space : count_or_refusal text space ≡ Ok (length text)
  fits-space = cond-true (leb (length text) (length space)) _ _ (le-leb (length text) (length space) room)

  pub written : (after : List ℕ) (n : ℕ) (r : Result ℕ Refusal) → r ≡ count_or_refusal text space → r ≡ Ok n → after ≡ space_after r text space → take (n - 0) after ≡ text
  written after n r count is writes =
      let size : Ok n ≡ Ok (length text) = sym is ∙ count ∙ fits-space in
      let same : n ≡ length text = cc in
      let from_start : n - 0 ≡ n = omega arith in
      ap (λ k. take k after) from_start ∙ ap (take n) (writes ∙ ap (λ q. space_after q text space) is) ∙ take_at text (drop n space) n (sym same)

pub ok_since : {A E : Type 0} (r : Result A E) (P : A → Type 0) (Q : E → Type 0) → MatchResult r P Q → ((e : E) → Q e → ⊥) → is_ok r ≡ true
ok_since (Ok x) P Q h never = refl
ok_since (Err e) P Q h never = absurd (never e h)
