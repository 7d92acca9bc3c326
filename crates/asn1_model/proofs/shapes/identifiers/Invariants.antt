-- The identifiers of the codes before.
use Rattle.std.proofs.Common.{◌≡◌, map, take}
use Rattle.asn1_model.specs.Names.{asn_identifier}
use Rattle.asn1_model.proofs.shapes.identifiers.Given as goal

abbrev pub invariant-loop-at : goal.invariant-loop-at
invariant-loop-at l = l.names.items ≡ map asn_identifier (take l.at l.codes)
