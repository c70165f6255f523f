-- `put_digits` ends: the measure is the number of places.
use Rattle.print_numbers.proofs.Page.+put_digits.Given as goal

abbrev pub decreases-put_digits : goal.decreases-put_digits
decreases-put_digits l = l.places
