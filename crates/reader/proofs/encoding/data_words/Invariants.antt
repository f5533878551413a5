-- The words so far are the header's and the first of the value's.
use Rattle.std.proofs.Common.{◌≡◌, ◌+◌, ◌-◌, ◌++◌, take}
use Rattle.std.specs.Int.Digits.{number_from_digits}
use Rattle.reader.specs.Card.{fields_of}
use Rattle.reader.specs.Words.{Holds}
use Rattle.reader.specs.Writing.{words_for, header_number}
use Rattle.reader.proofs.encoding.data_words.Given as goal

abbrev pub invariant-loop-k : goal.invariant-loop-k
invariant-loop-k l =
    Holds l.words (words_for 4 (header_number (fields_of l.card)) ++ take (l.count - l.k) (words_for l.count (number_from_digits 256 l.value)))
    × (l.words.count + l.k ≡ 4 + l.count)
