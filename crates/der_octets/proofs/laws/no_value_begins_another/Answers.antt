use Rattle.der_octets.proofs.laws.no_value_begins_another.Goals as goal
use Rattle.der_octets.proofs.OneReading.{no_front}

pub returns : goal.returns
returns c = no_front
