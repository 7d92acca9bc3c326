-- The types before.
use Rattle.std.proofs.Common.{◌≡◌, map, take}
use Rattle.asn1_model.specs.inner.Order.{numbered_type, numbered_from}
use Rattle.asn1_model.proofs.order.by_number.Given as goal

abbrev pub invariant-loop-number : goal.invariant-loop-number
invariant-loop-number l = map numbered_type l.types.items ≡ numbered_from 0 (take l.number l.model.types)
