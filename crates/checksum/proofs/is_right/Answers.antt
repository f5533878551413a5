-- The answer of `is_right`.
use Rattle.std.proofs.Common.{◌≡◌, [], ◌∷◌, rules, sym, ◌∙◌}
use Rattle.std.proofs.lemmas.Iterator.{YieldsList-from_slice}
use Rattle.std.proofs.lemmas.Iterator.Search.{all_from_yields_List}
use Rattle.checksum.specs.Values.{values}
use Rattle.checksum.specs.Checksum.{coefficients}
use Rattle.checksum.proofs.ChecksumDetects.{detects}
use Rattle.checksum.proofs.ChecksumRoots.{right_ones, ones_right}
use Rattle.checksum.proofs.ChecksumTest.{is_one, tests, tests_ones, ones_tests, tests_right}
use Rattle.checksum.proofs.is_right.Goals as goal

pub returns : goal.returns
returns c =
    let e = c.args.extendable in
    let ws = c.args.words.now in
    let p = coefficients e (values ws) in
    let tested : c.all.result ≡ tests p =
    all_from_yields_List (is_one p) _ _ _ c.all.ensures.ran (YieldsList-from_slice (2 ∷ 4 ∷ 8 ∷ []) c.iter.ensures.rest) (λ x b q k. search rules) in
    record {
      remainder = tested ∙ tests_right e (values ws);
      quotient = (
        (λ h. ones_right e (values ws) (tests_ones p (sym tested ∙ h))),
        (λ r. tested ∙ ones_tests p (right_ones e (values ws) r)),
      );
      detects = λ h. detects e ws (tests_ones p (sym tested ∙ h));
    }
