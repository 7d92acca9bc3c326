-- The places of the types behind are written.
use Rattle.std.proofs.Common.{◌≡◌, ℕ, ◌<◌, ◌≤◌, List, length, map, drop}
use Rattle.asn1_model.specs.ModuleOf.{name_in}
use Rattle.asn1_model.specs.inner.Order.{numbered_type}
use Rattle.asn1_model.specs.inner.Places.{name_at}
use Rattle.asn1_model.proofs.places.places.Given as goal

abbrev pub invariant-loop-left : goal.invariant-loop-left
invariant-loop-left l = record {
  within : l.left ≤ length l.types;
  count : length l.places.items ≡ l.count;
  named : (given : List (List ℕ)) → length given ≡ length l.types → (p : ℕ) → p < l.count → name_at l.places.items given p ≡ name_in (map numbered_type (drop l.left l.types)) (drop l.left given) p;
}

abbrev pub decreases-loop-left : goal.decreases-loop-left
decreases-loop-left l = l.left
