-- The words that come before the bytes are those up to the point that the library's search finds.
use Rattle.std.proofs.Common.{[], rules, of_calls, arith}
use Rattle.std.proofs.lemmas.List.Sorted.{IsPartitionPoint-from_clause}
use Rattle.lexicon.specs.ByteOrder.{comes_before}
use Rattle.lexicon.proofs.ByteComparisons.{before_decided}
use Rattle.lexicon.proofs.WordFileLookup.{parted}
use Rattle.lexicon.proofs.word_file.WordFile.count_before.Goals as goal

pub returns : goal.returns
returns c =
    let file = c.args.self.now in
    let bytes = c.args.bytes.now in
    let found = c.partition_point in
    let size = file.count in
    let point =
    IsPartitionPoint-from_clause (λ w. comes_before w bytes) file.words found.result found.ensures.partitioned (parted file bytes)
    (λ a r q k. search (rules, of_calls, before_decided)) in
    record {
      bound = omega (arith, found.ensures.bound);
      before = λ k h. point.0 k [] (omega arith) h;
      after = λ k h l. point.1 k [] h (omega arith);
    }
