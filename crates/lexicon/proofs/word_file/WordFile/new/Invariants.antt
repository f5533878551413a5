-- The words so far, followed by those that are left, are the file's.
use Rattle.std.proofs.Common.{◌≡◌, ◌-◌, ◌≤◌, length, take, drop}
use Rattle.lexicon.specs.WordFile.{words_from, file_words}
use Rattle.lexicon.proofs.WordFileReading.{with_front}
use Rattle.lexicon.proofs.word_file.WordFile.new.Given as goal

abbrev pub invariant-loop-word : goal.invariant-loop-word
invariant-loop-word l = record {
  size : length l.word-items ≡ 1024;
  within : l.offset ≤ length l.file;
  so_far : with_front (take l.word-index l.word-items) (words_from (1024 - l.word-index) l.previous l.offset (drop l.offset l.file)) ≡ file_words l.file;
}
