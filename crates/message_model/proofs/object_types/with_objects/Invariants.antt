use Rattle.std.proofs.Common.{◌≡◌, ℕ, List, [], ◌∷◌, map, take}
use Rattle.reference_check.specs.Graph.{document, message}
use Rattle.message_model.specs.Compiled.{places_of}
use Rattle.message_model.specs.inner.Numbers.{AreNumbers, AreTypesOf, ids_at}
use Rattle.message_model.specs.Views.{type_entry}
use Rattle.message_model.proofs.object_types.with_objects.Given as goal

-- the types of the places before
abbrev pub invariant-loop-place : goal.invariant-loop-place
invariant-loop-place l = record {
  stays : l.texts ≡ l.repository;
  types : (m : List ℕ) → AreNumbers l.places l.numbers → AreTypesOf l.repository m l.places (document ∷ (message ∷ [])) (map type_entry l.fn.types.items)
      → AreTypesOf l.repository m l.places (places_of (ids_at l.repository.objects (take l.place-index l.places))) (map type_entry l.types.items);
}
