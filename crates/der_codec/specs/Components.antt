-- What is found of identifier octets and ends.
use Rattle.std.specs.Prelude.{◌≡◌, ℕ, ◌<◌, ◌≤◌, Bool, true, false, List, [], ◌∷◌, Option, Some, None, slice_get, codes, nat_lt, if◌then◌else◌}
use Rattle.facets.specs.declared.simple.Simple.{Simple}
use Rattle.reference_check.specs.Forms as graph
use Rattle.reference_check.specs.Forms.{Graph, form_slots}
use Rattle.der_model.specs.Structures.{is_single}
use Rattle.der_model.specs.States as states
use Rattle.der_codec.specs.Levels.{IsSpot}
use Rattle.der_codec.specs.declared.components.Added.{Added}
use Rattle.der_codec.specs.declared.components.Added.TheVariants as added
use Rattle.der_codec.specs.declared.components.Found.{Found}
use Rattle.der_codec.specs.declared.components.Found.TheVariants.{Begins, Breaks}
use Rattle.der_codec.specs.declared.value_ends.Ended.{Ended}
use Rattle.der_codec.specs.declared.value_ends.Ended.TheVariants as ended

abbrev pub slot_text : Option (graph.Slot ℕ) → List ℕ
slot_text None = []
slot_text (Some s) = 47 ∷ s.tag

-- what is added to a path
abbrev pub added_text : Graph ℕ Simple → Added → List ℕ
added_text types added.Nothing = []
added_text types (added.Slot p k) = slot_text (slice_get (form_slots (types p)) k)
added_text types added.Currency = codes "/@Ccy"
added_text types added.Any = codes "/*"

-- what is found of identifier octets is the answer of the definitions
abbrev pub IsFound : Graph ℕ Simple → Found → states.IdentifierAnswer ℕ → Type 0
IsFound types (Begins n spot) (states.Begins k c) = (n ≡ k) × IsSpot types spot c.spot
IsFound types (Breaks rule added) (states.Breaks r text) = (rule ≡ r) × (text ≡ added_text types added)
IsFound types _ _ = ⊥

-- the same of an end
abbrev pub IsEnded : Graph ℕ Simple → Ended → states.EndAnswer → Type 0
IsEnded types ended.Fine states.Fine = Unit {0}
IsEnded types (ended.Breaks rule added) (states.EndBreaks r text) = (rule ≡ r) × (text ≡ added_text types added)
IsEnded types _ _ = ⊥

-- a slot that has to come: its value, or its list
abbrev pub has_to_come : graph.Slot ℕ → Bool
has_to_come s = if is_single s then nat_lt 0 s.min else true

-- none of these slots has to come
abbrev pub NoneDue : List (graph.Slot ℕ) → ℕ → ℕ → Type 0
NoneDue fs from to = (i : ℕ) (s : graph.Slot ℕ) → from ≤ i → i < to → slice_get fs i ≡ Some s → has_to_come s ≡ false

-- the first of these slots that has to come
pub record IsDue (fs : List (graph.Slot ℕ)) (from to at : ℕ) : Type 0 where
  pub low : from ≤ at
  pub high : at < to
  pub slot : graph.Slot ℕ
  pub found : slice_get fs at ≡ Some slot
  pub due : has_to_come slot ≡ true
  pub first : NoneDue fs from at
