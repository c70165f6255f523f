-- `closing::correct_later` meets its contract: a sweep over the rows that the tables show, each with its multipliers and divisor. As long
-- as no row is refused, what is listed of the rows ahead decides for all of them.
use Rattle.rules.specs.Elimination.{corrected, listed_d}
use Rattle.closing.proofs.CorrectedRows.{Later}
use Rattle.closing.proofs.correct_later.Given as goal

abbrev pub invariant-loop-r : goal.invariant-loop-r
invariant-loop-r l =
    Later l.w l.m (corrected l.k l.d l.reason) (listed_d l.k l.d l.reason) l.fn.rows l.fn.multipliers l.fn.divisors l.rows l.multipliers l.divisors l.r
