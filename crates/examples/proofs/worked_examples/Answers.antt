-- Each row computes.
use Rattle.std.proofs.Common.{refl}
use Rattle.field.specs.CarryLess.{times_x, product_by, times_squares}
use Rattle.cipher.specs.Feistel.{network}
use Rattle.reader.specs.Bits.{bits_in}
use Rattle.reader.specs.Writing.{words_for}
use Rattle.examples.proofs.worked_examples.Goals as goal

pub returns : goal.returns
unfolding bits_in times_x product_by times_squares words_for network
returns c = record { holds = (refl, (refl, (refl, (refl, (refl, (refl, (refl, (refl, (refl, (refl, tt)))))))))); rows = refl }
