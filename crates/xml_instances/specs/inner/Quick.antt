-- Runs of characters and whole tags, held to a message.
use Rattle.std.specs.Prelude.{◌≡◌, ℕ, Bool, true, false, List, [], ◌∷◌, map, Option, Some, None, Result, Ok, Err, slice_get}
use Rattle.std.specs.List.{list_all}
use Rattle.lexical_core.specs.Tree.{Expanded, Entry, Item, Char}
use Rattle.facets.specs.declared.simple.Simple.{Simple}
use Rattle.markup.specs.Chars.{is_space}
use Rattle.markup.specs.Events.{start_tag_items}
use Rattle.reference_check.specs.Forms.{Graph, Slot, form_slots, text_type}
use Rattle.message_model.specs.Message.{Message}
use Rattle.xml_instances.specs.Levels.{Level, Parent, Leaf, Envelope, Foreign, levels_over}
use Rattle.xml_instances.specs.EventFaults.{AreFine, FirstFault, is_bare, has_currency}
use Rattle.xml_instances.specs.Open.{IsOpen, IsItemTaken}
use Rattle.xml_instances.specs.declared.opened.Opened.{Opened}
use Rattle.xml_instances.specs.declared.opened.Opened.TheVariants as opened
use Rattle.xml_instances.specs.declared.opened.Refusal.{Refusal}
use Rattle.xml_instances.specs.declared.opened.Refusal.TheVariants.{Breaks, Memory}
use Rattle.xml_instances.specs.declared.content.Content.{Content}
use Rattle.xml_instances.specs.declared.content.OpenText.{OpenText}
use Rattle.xml_instances.specs.declared.content.quick.Room.{Room}
use Rattle.xml_instances.specs.declared.content.quick.Room.TheVariants.{All, Blanks, Nothing}

-- The bytes may be characters of the innermost element: between elements they are white space, where there is a place for it.
abbrev pub MayTake : Graph ℕ Simple → Option Opened → List ℕ → Type 0
MayTake types (Some (opened.Parent number last count)) bytes = (is_bare (types number) ≡ false) × (list_all is_space bytes ≡ true)
MayTake types (Some (opened.Envelope filled)) bytes = list_all is_space bytes ≡ true
MayTake types (Some opened.Text) bytes = Unit {0}
MayTake types (Some opened.Foreign) bytes = Unit {0}
MayTake types None bytes = Unit {0}

-- what may be characters of the innermost element
abbrev pub IsRoomIn : Graph ℕ Simple → Option Opened → Room → Type 0
IsRoomIn types innermost All = (bytes : List ℕ) → MayTake types innermost bytes
IsRoomIn types (Some (opened.Parent number last count)) Blanks = is_bare (types number) ≡ false
IsRoomIn types (Some (opened.Envelope filled)) Blanks = Unit {0}
IsRoomIn types innermost Blanks = ⊥
IsRoomIn types innermost Nothing = Unit {0}

-- the characters break no rule, and the content stands behind them
abbrev pub IsRunTaken : Message ℕ → List (Level ℕ) → List ℕ → Content → Type 0
IsRunTaken m ls cs content = AreFine m ls (map (λ c. Char c) cs) × IsOpen content m (levels_over m ls (map (λ c. Char c) cs))

-- what the comparison of events answers that stand at one place
abbrev pub AreItemsTaken : {T : Type 0} → Message ℕ → List (Level ℕ) → List Item → Content → Result T Refusal → Type 0
AreItemsTaken m ls items content (Ok x) = AreFine m ls items × IsOpen content m (levels_over m ls items)
AreItemsTaken m ls items content (Err (Breaks rule path)) = FirstFault m ls items (record { rule = rule; path = path })
AreItemsTaken m ls items content (Err Memory) = Unit {0}

-- the item breaks no rule, and the content stands behind it
abbrev pub Passes : Message ℕ → List (Level ℕ) → Item → Content → Type 0
Passes m ls item content = IsItemTaken {T = Unit {0}} m ls item content (Ok tt)

-- the same of several
abbrev pub PassAll : Message ℕ → List (Level ℕ) → List Item → Content → Type 0
PassAll m ls items content = AreItemsTaken {T = Unit {0}} m ls items content (Ok tt)

-- the slot has this type, whose elements may be without attributes
abbrev pub IsTargetOf : Graph ℕ Simple → ℕ → ℕ → ℕ → Type 0
IsTargetOf types number k target = (s : Slot ℕ) × (slice_get (form_slots (types number)) k ≡ Some s) × (target ≡ s.target) × (has_currency (types target) ≡ false)

-- the name is in the namespace of the innermost element, where that has elements of the message
abbrev pub IsOurs : Message ℕ → List (Level ℕ) → Expanded → Type 0
IsOurs m [] n = n.namespace ≡ []
IsOurs m (Parent f d ∷ ls) n = n.namespace ≡ m.namespace
IsOurs m (Leaf simple text ∷ ls) n = Unit {0}
IsOurs m (Envelope filled ∷ ls) n = Unit {0}
IsOurs m (Foreign ∷ ls) n = Unit {0}

-- the open text is one of this type
abbrev pub IsTextTypeOf : Graph ℕ Simple → Option OpenText → Simple → Type 0
IsTextTypeOf types None simple = ⊥
IsTextTypeOf types (Some t) simple = text_type (types t.number) ≡ Some simple

-- it is an element with elements of the message
abbrev pub is_parent : Option Opened → Bool
is_parent (Some (opened.Parent number last count)) = true
is_parent o = false

-- where this is the innermost element, one in an envelope may start, and this stands round it then
abbrev pub IsRoundForeign : Option Opened → Opened → Type 0
IsRoundForeign (Some opened.Foreign) round = round ≡ opened.Foreign
IsRoundForeign (Some (opened.Envelope false)) round = round ≡ opened.Envelope true
IsRoundForeign o round = ⊥

-- the events of a start tag of this name
abbrev pub start_events : Bool → List Entry → Expanded → List Item
start_events is_empty entries n = start_tag_items (Some n) entries is_empty
