-- The types so far, and those to come.
use Rattle.std.proofs.Common.{◌≡◌, ◌++◌, map, drop}
use Rattle.asn1_model.specs.ModuleOf.{by_name, names_given, types_with}
use Rattle.asn1_model.specs.inner.Order.{numbered_type}
use Rattle.asn1_model.proofs.make.types_of.Given as goal

abbrev pub invariant-loop-at : goal.invariant-loop-at
invariant-loop-at l = types_with l.model (by_name l.model) (names_given l.model) ≡ l.types ++ types_with l.model (map numbered_type (drop l.at l.order)) (drop l.at (names_given l.model))
