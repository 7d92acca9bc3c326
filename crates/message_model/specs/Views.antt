-- What the tables of the code and their answers are to contracts.
use Rattle.std.specs.Prelude.{◌≡◌, ℕ, List, Option, Some, None}
use Rattle.facets.specs.declared.simple.Simple.{Simple}
use Rattle.reference_check.specs.Forms as graph
use Rattle.reference_check.specs.Forms.{Sequence, Choice, Money, Envelope}
use Rattle.reference_check.specs.Steps as step
use Rattle.message_model.specs.Tables.{Tables, TypeEntry}
pub use Rattle.message_model.specs.SlotViews.{slot_info, slots_view}
use Rattle.message_model.specs.declared.model.Layout.{Layout}
use Rattle.message_model.specs.declared.model.Layout.TheVariants as layout
use Rattle.message_model.specs.declared.model.TypeInfo.{TypeInfo}
use Rattle.message_model.specs.declared.model.Slot.{Slot}
use Rattle.message_model.specs.declared.model.Next.{Next}
use Rattle.message_model.specs.declared.model.Next.TheVariants as next
use Rattle.message_model.specs.declared.model.End.{End}
use Rattle.message_model.specs.declared.model.End.TheVariants as end
use Rattle.message_model.specs.declared.model.Form.{Form}
use Rattle.message_model.specs.declared.model.Form.TheVariants as form

abbrev pub tables_from : List ℕ → List TypeEntry → Tables
tables_from id types = record { id = id; types = types }

abbrev pub layout_form : Layout → graph.Form ℕ Simple
layout_form (layout.Sequence slots) = Sequence (slots_view slots)
layout_form (layout.Choice slots) = Choice (slots_view slots)
layout_form (layout.Simple simple) = graph.Simple simple
layout_form (layout.Money code base) = Money code base
layout_form layout.Envelope = Envelope

abbrev pub type_entry : TypeInfo → TypeEntry
type_entry t = record { word = t.word; name = t.name; form = layout_form t.layout }

abbrev pub slot_view : Option Slot → Option (graph.Slot ℕ)
slot_view None = None
slot_view (Some s) = Some (record { tag = s.tag.now; min = s.min; max = s.max; target = s.target })

abbrev pub next_view : Next → step.NextSlot
next_view (next.Slot k) = step.Slotted k
next_view next.Unknown = step.Unknown
next_view next.OutOfOrder = step.OutOfOrder
next_view next.TooMany = step.TooMany
next_view (next.Missing k) = step.Missing k
next_view next.Second = step.Second

abbrev pub end_view : End → step.EndOfSlots
end_view end.Fine = step.Fine
end_view (end.Missing k) = step.Lacks k
end_view end.NoAlternative = step.NoAlternative

-- the form that is told is that of the type; its slots are told one by one
abbrev pub IsFormOf : Option Form → graph.Form ℕ Simple → Type 0
IsFormOf None graph.Missing = Unit {0}
IsFormOf (Some form.Sequence) (graph.Sequence slots) = Unit {0}
IsFormOf (Some form.Choice) (graph.Choice slots) = Unit {0}
IsFormOf (Some (form.Simple told)) (graph.Simple simple) = told.now ≡ simple
IsFormOf (Some (form.Money told base)) (graph.Money code number) = (told ≡ code) × (base.now ≡ number)
IsFormOf (Some form.Envelope) graph.Envelope = Unit {0}
IsFormOf _ _ = ⊥
