-- Writing and reading a card's words undo each other.
use Rattle.std.proofs.Common.{◌≡◌, ℕ, zero, suc, ◌+◌, ◌-◌, ◌*◌, ◌%◌, ◌^◌, ◌<◌, ◌≤◌, Bool, true, false, cond, not, eqb, leb, ◌⊎◌, List, ◌++◌, length, take, drop, Ok, Result, sym, refl, ap, ◌∙◌, subst, ap₂, inl, inr, append_assoc, zero-mul, arith, length-drop, length-take}
use Rattle.std.specs.Int.Digits.{number_from_digits, AllBelowBase}
use Rattle.std.proofs.ByRecursion.{All-append, All-take, All-drop, All-from_get_or}
use Rattle.std.proofs.lemmas.List.{take-append-drop}
use Rattle.std.proofs.lemmas.Bool.{and_parts, leb-true, ltb-true, eqb-true, eqb-false, or_cases, not-true, eq-eqb, cases_eq}
use Rattle.refusal.specs.declared.Refusal.{Refusal}
use Rattle.refusal.specs.declared.Refusal.TheVariants.{WordCount, WrongChecksum, PaddingNotZero, GroupNumbers, MemberAtThresholdOne}
use Rattle.reader.specs.Bits.{bits_at}
use Rattle.reader.specs.Card.{Fields}
use Rattle.checksum.specs.Checksum.{customization, check_words_of, is_right}
use Rattle.reader.specs.Reading.{require, fields_in, padding_bits, value_length, count_fits, groups_fit, member_fits, checked_fields, checked_words, card_in}
use Rattle.reader.specs.Writing.{Lawful, words_for, header_number, value_words, data_words, words_of}
use Rattle.reader.proofs.BitAlgebra as B
use Rattle.reader.proofs.CheckedFields.{passed, all-passed}
use Rattle.checksum.proofs.CheckWords as C
use Rattle.reader.proofs.WordRoundTrip as W

pub data_small : (f : Fields) → AllBelowBase 1024 (data_words f)
data_small f = All-append (λ d. d < 1024) (words_for 4 (header_number f)) _ (W.small_words_for 4 (header_number f)) (W.small_words_for _ (number_from_digits 256 f.value))

-- ---- what is written is read
module _ (f : Fields) (ok : Lawful f) where
  checks : List ℕ
  checks = check_words_of (customization f.extendable ++ data_words f)

  three : length checks ≡ 3
  unfolding checks
  three = C.three-checks f.extendable (data_words f) (data_small f)

  small : AllBelowBase 1024 checks
  unfolding checks
  small = C.small_checks f.extendable (data_words f) (data_small f)

  pub words_small : AllBelowBase 1024 (words_of f)
  unfolding checks
  words_small = All-append (λ d. d < 1024) (data_words f) checks (data_small f) small

  pub words-fit : count_fits (length (words_of f)) ≡ true
  unfolding checks
  words-fit = W.fits f ok checks three small

  pub words-say : fields_in (words_of f) ≡ f
  unfolding checks
  words-say = W.says f ok checks three small

  pub words_right : is_right f.extendable (words_of f) ≡ true
  words_right = C.checked_right f.extendable (data_words f) (data_small f)

  either : (f.member_threshold ≡ 1 → ⊥) ⊎ (f.member ≡ 0)
  either = elim (cases_eq f.member_threshold 1) [ inl e ↦ inr (ok.alone e) | inr n ↦ inl n ]

  pub written_read : card_in (words_of f) ≡ Ok f
  unfolding checks
  written_read =
      let ws = words_of f in
      passed (count_fits (length ws)) (WordCount (length ws)) (checked_words ws) (W.fits f ok checks three small)
      ∙ passed (is_right (fields_in ws).extendable ws) WrongChecksum _ (ap (λ g. is_right g.extendable ws) words-say ∙ words_right)
      ∙ passed (eqb (bits_at ws 40 (padding_bits (length ws))) 0) PaddingNotZero (checked_fields (fields_in ws)) (eq-eqb _ 0 (W.padding-none f ok checks three small))
      ∙ ap checked_fields words-say
      ∙ all-passed f ok.group_threshold_most ok.group either

-- ---- what is read is written so
pub demanded : {A : Type 0} (b : Bool) (refusal : Refusal) (rest : Result A Refusal) (x : A) → require b refusal rest ≡ Ok x → (b ≡ true) × (rest ≡ Ok x)
demanded true refusal rest x e = (refl, e)
demanded false refusal rest x e = absurd (let z : ◌≡◌ {A = ℕ} 0 1 = cc in omega arith)

flag_back : (b : ℕ) → b < 2 → cond (eqb b 1) 1 0 ≡ b
flag_back zero h = refl
flag_back (suc zero) h = refl
flag_back (suc (suc b)) h = absurd (omega arith)

module _ (ws : List ℕ) (small : AllBelowBase 1024 ws) (counted : count_fits (length ws) ≡ true) (padded : bits_at ws 40 (padding_bits (length ws)) ≡ 0) where
  L : ℕ
  L = length ws

  v : ℕ
  v = length ws - 7

  n : ℕ
  n = value_length (length ws)

  pad : ℕ
  pad = padding_bits (length ws)

  least : 20 ≤ length ws
  least = leb-true 20 (length ws) (and_parts (leb 20 (length ws)) _ counted).0

  most : length ws ≤ 59
  most = leb-true (length ws) 59 (and_parts (leb (length ws) 59) _ (and_parts (leb 20 (length ws)) _ counted).1).0

  pad_small : pad ≤ 8
  unfolding pad
  pad_small = leb-true (padding_bits (length ws)) 8 (and_parts (leb (length ws) 59) _ (and_parts (leb 20 (length ws)) _ counted).1).1

  total : pad + 8 * n ≡ 10 * v
  unfolding pad n v
  total = omega arith

  abbrev F : Fields
  F = fields_in ws

  header : header_number F ≡ number_from_digits 1024 (take 4 ws)
  header =
      let low = least in
      let j : (c d : ℕ) → c + d ≤ 40 → bits_at ws 0 (c + d) ≡ bits_at ws 0 c * 2 ^ d + bits_at ws (0 + c) d = λ c d h. B.join 10 ws 0 c d (omega arith) in
      let g : cond F.extendable 1 0 ≡ bits_at ws 15 1 = flag_back (bits_at ws 15 1) (B.bits-lt 10 ws 15 1) in
      let less : (x : ℕ) → x + 1 - 1 ≡ x = λ x. omega arith in
      ap₂ (λ a b. a * 16 + b)
      (ap (λ a. a * 16 + bits_at ws 32 4)
      (ap₂ (λ a b. a * 16 + b)
      (ap₂ (λ a b. a * 16 + b)
      (ap (λ a. a * 16 + bits_at ws 20 4)
      (ap (λ a. a * 16 + bits_at ws 16 4) (ap (λ b. bits_at ws 0 15 * 2 + b) g ∙ sym (j 15 1 (omega arith))) ∙ sym (j 16 4 (omega arith)))
      ∙ sym (j 20 4 (omega arith)))
      (less (bits_at ws 24 4)) ∙ sym (j 24 4 (omega arith)))
      (less (bits_at ws 28 4)) ∙ sym (j 28 4 (omega arith)))
      ∙ sym (j 32 4 (omega arith)))
      (less (bits_at ws 36 4)) ∙ sym (j 36 4 (omega arith))
      ∙ B.run 10 ws small 0 4 (omega arith)

  size : length F.value ≡ n
  unfolding n pad
  size = B.length-bytes ws (40 + pad) n

  value : number_from_digits 256 F.value ≡ number_from_digits 1024 (take v (drop 4 ws))
  unfolding n pad v
  value =
      let low = least in
      let t = total in
      B.number-bytes ws (40 + pad) n 0 (omega arith)
      ∙ ap (λ x. x + bits_at ws (40 + pad) (8 * n)) (zero-mul (2 ^ (8 * n)) ∙ sym (zero-mul (2 ^ (8 * n))) ∙ ap (λ x. x * 2 ^ (8 * n)) (sym padded))
      ∙ sym (B.join 10 ws 40 pad (8 * n) (omega arith))
      ∙ ap (bits_at ws 40) t
      ∙ B.run 10 ws small 4 v (omega arith)

  data_back : data_words F ≡ take 4 ws ++ take v (drop 4 ws)
  unfolding v
  data_back =
      let low = least in
      let s = size in
      let t = total in
      let p = pad_small in
      let a : length (take 4 ws) ≡ 4 = simp length-take (omega arith) in
      let b : length (take v (drop 4 ws)) ≡ v = simp (length-take, length-drop) (omega arith) in
      let count : value_words (length F.value) ≡ v = ap value_words s ∙ omega arith in
      ap₂ ◌++◌
      (W.words_for-number 4 (header_number F) (take 4 ws) (All-take (λ d. d < 1024) 4 ws small) a (sym header))
      (ap (λ k. words_for k (number_from_digits 256 F.value)) count
      ∙ W.words_for-number v (number_from_digits 256 F.value) (take v (drop 4 ws)) (All-take (λ d. d < 1024) v (drop 4 ws) (All-drop (λ d. d < 1024) 4 ws small)) b (sym value))

  pub words_back : is_right F.extendable ws ≡ true → words_of F ≡ ws
  unfolding v
  words_back right =
      let low = least in
      let cs = drop v (drop 4 ws) in
      let parts : data_words F ++ cs ≡ ws =
      ap (λ l. l ++ cs) data_back ∙ append_assoc (take 4 ws) (take v (drop 4 ws)) cs
      ∙ ap (λ l. take 4 ws ++ l) (take-append-drop v (drop 4 ws)) ∙ take-append-drop 4 ws in
      let three : length cs ≡ 3 = simp length-drop (omega arith) in
      let smallD : AllBelowBase 1024 (data_words F) =
      subst (AllBelowBase 1024) (sym data_back) (All-append (λ d. d < 1024) (take 4 ws) (take v (drop 4 ws)) (All-take (λ d. d < 1024) 4 ws small) (All-take (λ d. d < 1024) v (drop 4 ws) (All-drop (λ d. d < 1024) 4 ws small))) in
      ap (λ l. data_words F ++ l)
      (sym (C.only-checks F.extendable (data_words F) smallD cs three (All-drop (λ d. d < 1024) v (drop 4 ws) (All-drop (λ d. d < 1024) 4 ws small))
      (subst (λ l. is_right F.extendable l ≡ true) (sym parts) right)))
      ∙ parts

  pub bytes_small : AllBelowBase 256 F.value
  unfolding n pad
  bytes_small =
      All-from_get_or (λ d. d < 256) F.value 0
      (λ k h. let s = size in let lt : k < n = omega arith in
      subst (λ x. x < 256) (sym (B.bytes-at ws (40 + pad) n k lt)) (B.bits-lt 10 ws (40 + pad + 8 * k) 8))

  pub fields_lawful : groups_fit F ≡ true → member_fits F ≡ true → Lawful F
  unfolding n
  fields_lawful groups members =
      let low = least in
      let high = most in
      let s = size in
      let lt = B.bits-lt 10 ws in
      record {
        identifier = lt 0 15;
        exponent = lt 16 4;
        group = ltb-true F.group F.group_count (and_parts (leb F.group_threshold F.group_count) _ groups).1;
        group_threshold_least = omega arith;
        group_threshold_most = leb-true F.group_threshold F.group_count (and_parts (leb F.group_threshold F.group_count) _ groups).0;
        group_count = let b = lt 28 4 in omega arith;
        member = lt 32 4;
        member_threshold_least = omega arith;
        member_threshold_most = let b = lt 36 4 in omega arith;
        alone = λ e. alone e members;
        value_least = omega arith;
        value_most = omega arith;
        value_even = ap (λ m. m % 2) s ∙ omega arith;
        value_bytes = bytes_small;
      }
    where
      alone : F.member_threshold ≡ 1 → member_fits F ≡ true → F.member ≡ 0
      alone e m =
          elim (or_cases (not (eqb F.member_threshold 1)) (eqb F.member 0) m) [
            | inl t ↦ absurd (eqb-false F.member_threshold 1 (not-true _ t) e)
            | inr t ↦ eqb-true F.member 0 t
          ]

pub read_written : (ws : List ℕ) (f : Fields) → AllBelowBase 1024 ws → card_in ws ≡ Ok f → (words_of f ≡ ws) × Lawful f
read_written ws f small e =
    let F = fields_in ws in
    let d1 = demanded (count_fits (length ws)) (WordCount (length ws)) (checked_words ws) f e in
    let d2 = demanded (is_right F.extendable ws) WrongChecksum _ f d1.1 in
    let d3 = demanded (eqb (bits_at ws 40 (padding_bits (length ws))) 0) PaddingNotZero (checked_fields F) f d2.1 in
    let d4 = demanded (groups_fit F) GroupNumbers _ f d3.1 in
    let d5 = demanded (member_fits F) MemberAtThresholdOne (Ok F) f d4.1 in
    let same : F ≡ f = injected F f d5.1 in
    let padded = eqb-true (bits_at ws 40 (padding_bits (length ws))) 0 d3.0 in (
      subst (λ g. words_of g ≡ ws) same (words_back ws small d1.0 padded d2.0),
      subst Lawful same (fields_lawful ws small d1.0 padded d4.0 d5.0),
    )
  where
    injected : (a b : Fields) → ◌≡◌ {A = Result Fields Refusal} (Ok a) (Ok b) → a ≡ b
    injected a b e = cc
