use Rattle.der_octets.proofs.laws.octets_are_one_list_of_values.Goals as goal
use Rattle.der_octets.proofs.OneReading.{octets_same}

pub returns : goal.returns
returns c = octets_same
