-- What is kept of the words of a line: how many there are, and the first 59.
use Rattle.std.specs.Prelude.{◌≡◌, ℕ, List, length, take}
use Rattle.reader.specs.declared.words.Words.{Words}
use Rattle.checksum.specs.Values.{values}

pub record Holds (w : Words) (ws : List ℕ) : Type 0 where
  pub count : w.count ≡ length ws
  pub first : values (take (length ws) w.elements) ≡ take 59 ws
