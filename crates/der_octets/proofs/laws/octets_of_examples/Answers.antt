use Rattle.der_octets.proofs.laws.octets_of_examples.Goals as goal
use Rattle.der_octets.proofs.Examples.{length_example, sequence_example, explicit_example, two_octets_example, three_octets_example, length_examples}

pub returns-clause-length : goal.returns-clause-length
returns-clause-length c = length_example

pub returns-clause-sequence : goal.returns-clause-sequence
returns-clause-sequence c = sequence_example

pub returns-clause-explicit : goal.returns-clause-explicit
returns-clause-explicit c = explicit_example

pub returns-clause-two : goal.returns-clause-two
returns-clause-two c = two_octets_example

pub returns-clause-three : goal.returns-clause-three
returns-clause-three c = three_octets_example

pub returns-clause-lengths : goal.returns-clause-lengths
returns-clause-lengths c = length_examples
