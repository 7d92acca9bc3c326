use Rattle.std.proofs.Common.{◌≡◌, ℕ, List, map, take}
use Rattle.reference_check.specs.Forms.{slot_to}
use Rattle.reference_check.specs.Graph.{slot_of}
use Rattle.message_model.specs.Compiled.{place_of}
use Rattle.message_model.specs.inner.Numbers.{AreNumbers, NamePlaces, ids_at}
use Rattle.message_model.specs.Views.{slots_view}
use Rattle.message_model.proofs.slots.slots_of.Given as goal

-- the slots of the elements before
abbrev pub invariant-loop-element : goal.invariant-loop-element
invariant-loop-element l = (places : List ℕ) → AreNumbers places l.numbers → NamePlaces l.repository.objects places l.elements
    → map (slot_to (place_of (ids_at l.repository.objects places))) (slots_view l.slots.items) ≡ map slot_of (take l.element-index l.elements)
