-- The names of the types before.
use Rattle.std.proofs.Common.{◌≡◌, map, take}
use Rattle.asn1_model.specs.ModuleOf.{type_name_of}
use Rattle.asn1_model.specs.inner.Order.{numbered_type}
use Rattle.asn1_model.proofs.type_names.bare_names.Given as goal

abbrev pub invariant-loop-named : goal.invariant-loop-named
invariant-loop-named l = l.names.items ≡ map type_name_of (map numbered_type (take l.named-index l.types))
