use Rattle.std.proofs.Common.{rules}
use Rattle.facets.proofs.ValueLemmas.{octets_fit, length_breaks}
use Rattle.facets.proofs.lengths.check_octets.Goals as goal

pub returns-then-has_length-clause-leaf : goal.returns-then-has_length-clause-leaf
returns-then-has_length-clause-leaf c e octets bytes size = octets_fit c.args.simple.now octets bytes e (rw size (search rules))

pub returns-else-has_length-clause-leaf : goal.returns-else-has_length-clause-leaf
returns-else-has_length-clause-leaf c e octets bytes size = length_breaks c.args.simple.now octets bytes e (rw size (search rules))
