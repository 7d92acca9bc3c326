use Rattle.std.proofs.Common.{[], length, refl}
use Rattle.data_types.proofs.OctetLemmas.{no_octets, before_any}
use Rattle.data_types.proofs.octets.OctetStep.restart.Goals as goal

pub returns-clause-text : goal.returns-clause-text
returns-clause-text c = λ most text (octets, has, rest). ([], (no_octets, c.restart.ensures.kept most (length octets) octets has.1, refl), before_any)
