-- Fewer digits are left.
use Rattle.der_writer.proofs.heads.+push_digits.Given as goal

abbrev pub decreases-push_digits : goal.decreases-push_digits
decreases-push_digits g l = l.number
