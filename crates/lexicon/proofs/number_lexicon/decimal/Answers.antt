-- A byte that is no digit stands in no number.
use Rattle.std.proofs.Common.{◌/◌, ◌%◌, get_or, ap, arith}
use Rattle.lexicon.proofs.number_lexicon.decimal.Goals as goal

pub returns-in_err-digit_value : goal.returns-in_err-digit_value
returns-in_err-digit_value c = rw c.from_residual.ensures (λ n h e. c.in_err-digit_value.ensures (n / 1000) (omega arith) (ap (λ l. get_or l 0 0) e))

pub returns-in_err-digit_value-2 : goal.returns-in_err-digit_value-2
returns-in_err-digit_value-2 c = rw c.from_residual-in_err-digit_value-2.ensures (λ n h e. c.in_err-digit_value-2.ensures (n / 100 % 10) (omega arith) (ap (λ l. get_or l 1 0) e))

pub returns-in_err-digit_value-3 : goal.returns-in_err-digit_value-3
returns-in_err-digit_value-3 c = rw c.from_residual-in_err-digit_value-3.ensures (λ n h e. c.in_err-digit_value-3.ensures (n / 10 % 10) (omega arith) (ap (λ l. get_or l 2 0) e))

pub returns-in_err-digit_value-4 : goal.returns-in_err-digit_value-4
returns-in_err-digit_value-4 c = rw c.from_residual-in_err-digit_value-4.ensures (λ n h e. c.in_err-digit_value-4.ensures (n % 10) (omega arith) (ap (λ l. get_or l 3 0) e))
