use Rattle.std.proofs.Common.{rules}
use Rattle.facets.proofs.ValueLemmas.{number_fits, digits_break, range_breaks}
use Rattle.facets.proofs.digits.check_number.Goals as goal

pub returns-then-not-has_digits-clause-leaf : goal.returns-then-not-has_digits-clause-leaf
returns-then-not-has_digits-clause-leaf c e = digits_break c.args.simple.now c.args.value c.has_digits.ensures.decimal e (search rules)

pub returns-then-is_in_range-clause-leaf : goal.returns-then-is_in_range-clause-leaf
returns-then-is_in_range-clause-leaf c e = number_fits c.args.simple.now c.args.value c.has_digits.ensures.decimal e (search rules) (search rules)

pub returns-else-is_in_range-clause-leaf : goal.returns-else-is_in_range-clause-leaf
returns-else-is_in_range-clause-leaf c e = range_breaks c.args.simple.now c.args.value c.has_digits.ensures.decimal e (search rules) (search rules)
