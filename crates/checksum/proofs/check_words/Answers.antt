-- The answer of `check_words`.
use Rattle.std.proofs.Common.{◌≡◌, true, List, [], ◌∷◌, ◌++◌, sym, ap, ◌∙◌, subst, append_assoc}
use Rattle.field.specs.declared.gf1024.Gf1024.{Gf1024}
use Rattle.field.specs.Gf1024.{element, sum}
use Rattle.checksum.specs.Values.{values}
use Rattle.checksum.specs.Checksum.{customization, remainder_of, is_right, Right, check_words_of}
use Rattle.checksum.proofs.ChecksumPolynomial.{front}
use Rattle.checksum.proofs.ChecksumRoots.{ones_right}
use Rattle.checksum.proofs.ChecksumRemainder.{divided, remainder-divided, is_right-ones, ones_is_right}
use Rattle.checksum.proofs.ChecksumWords.{zeros, divided-append, check-value, check-ones, check-only}
use Rattle.checksum.proofs.check_words.Goals as goal

pub returns : goal.returns
returns c =
    let e = c.args.extendable in
    let ws = c.args.words.now in
    let z = element 0 in
    let one = element 1 in
    let s = c.of_customization.result in
    let a = c.followed_by_all.result in
    let l = c.followed_by_all-remainder.result in
    let to-words : a.high ∷ a.middle ∷ a.low ∷ [] ≡ divided z z one (front e ++ ws) =
    c.followed_by_all.ensures ∙ remainder-divided s.high s.middle s.low ws
    ∙ divided-append z z one (front e) ws s.high s.middle s.low (c.of_customization.ensures ∙ remainder-divided z z one (front e)) in
    let to-zeros : l.high ∷ l.middle ∷ l.low ∷ [] ≡ divided z z one (front e ++ (ws ++ zeros)) =
    c.followed_by_all-remainder.ensures
    ∙ ap (λ y. remainder_of (a.high ∷ a.middle ∷ a.low ∷ y ∷ y ∷ y ∷ [])) c.zero.ensures
    ∙ remainder-divided a.high a.middle a.low zeros
    ∙ divided-append z z one (front e ++ ws) zeros a.high a.middle a.low to-words
    ∙ ap (divided z z one) (append_assoc (front e) ws zeros) in
    let last : sum l.low one ≡ c.plus.result = sym (c.plus.ensures ∙ ap (sum l.low) c.one.ensures) in
    let P : Gf1024 → List Gf1024 = λ y. l.high ∷ l.middle ∷ y ∷ [] in
    let ones = check-ones e ws l.high l.middle l.low to-zeros in
    record {
      value = subst (λ y. values (P y) ≡ check_words_of (customization e ++ values ws)) last (check-value e ws l.high l.middle l.low to-zeros);
      right = subst (λ y. is_right e (values (ws ++ P y)) ≡ true) last (ones_is_right e (values (ws ++ P (sum l.low one))) ones);
      quotient = subst (λ y. Right e (values (ws ++ P y))) last (ones_right e (values (ws ++ P (sum l.low one))) ones);
      only = λ x y w h.
          check-only e ws l.high l.middle l.low to-zeros x y w (is_right-ones e (values (ws ++ (x ∷ y ∷ w ∷ []))) h) ∙ ap P last;
    }
