-- The bytes so far are those that the words hold.
use Rattle.std.proofs.Common.{◌≡◌, ℕ, ◌+◌, ◌*◌, ◌<◌, get_or}
use Rattle.reader.specs.Bits.{bits_at}
use Rattle.checksum.specs.Values.{values}
use Rattle.reader.proofs.card_words.CardWords.fill_bytes.Given as goal

abbrev pub invariant-loop-k : goal.invariant-loop-k
invariant-loop-k l = (j : ℕ) → j < l.k → get_or l.bytes j 0 ≡ bits_at (values l.self.words.now) (l.from + 8 * j) 8
