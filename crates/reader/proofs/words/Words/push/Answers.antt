-- A word joins those that are kept while there is room, and is counted.
use Rattle.std.proofs.Common.{◌≡◌, ◌+◌, ◌<◌, ◌≤◌, [], ◌∷◌, ◌++◌, length, take, set, refl, ap, ◌∙◌, arith}
use Rattle.std.proofs.lemmas.List.{length_push}
use Rattle.std.proofs.lemmas.Result.{MatchResult-at_ok}
use Rattle.field.specs.Gf1024.{element}
use Rattle.checksum.specs.Values.{values}
use Rattle.reader.proofs.KeptWords.{pushed, passed}
use Rattle.reader.proofs.words.Words.push.Goals as goal
use Rattle.reader.proofs.words.Words.push.Goals.{then-self-lt59, else-self-lt59}

pub returns : goal.returns
returns c =
    record {
      holds = λ ws h.
          let v = c.args.index.value in
          let more : length (ws ++ (v ∷ [])) ≡ length ws + 1 = length_push ws v in
          record {
            count = omega (arith, h.count);
            first =
                elim c.if-self-lt59.branch [
                  | then-self-lt59 w ↦
                      let is : w.unwrap-element.result.value ≡ v =
                      (MatchResult-at_ok (λ n. (n.value ≡ v) × (n ≡ element v)) (λ _. 1024 ≤ v) w.unwrap-element.result w.unwrap-element.ensures w.try_from.ensures).0 in
                      let room : length ws < 59 = omega (arith, h.count, w.if-self-lt59.true) in
                      ap (λ s. values (take (length (ws ++ (v ∷ []))) s.1.0)) w.self-is
                      ∙ ap (λ n. values (take (length (ws ++ (v ∷ []))) (set c.args.self.now.elements n w.unwrap-element.result))) h.count
                      ∙ pushed c.args.self.now.elements w.unwrap-element.result v ws c.args.self.now.size room is h.first
                  | else-self-lt59 w ↦
                      ap (λ s. values (take (length (ws ++ (v ∷ []))) s.1.0)) w.self-is
                      ∙ passed c.args.self.now.elements v ws c.args.self.now.size (omega (arith, h.count, w.if-self-lt59.false)) h.first
                ];
          };
      counts = refl;
    }
