use Rattle.std.proofs.Common.{◌≡◌, take, flat_map}
use Rattle.xsd_model.specs.SchemaOf.{types_of_entry}
use Rattle.xsd_model.proofs.types.all_types.Given as goal

-- the types of the message's types before
abbrev pub invariant-loop-number : goal.invariant-loop-number
invariant-loop-number l = l.types.items ≡ flat_map (types_of_entry l.model) (take l.number l.model.types)
