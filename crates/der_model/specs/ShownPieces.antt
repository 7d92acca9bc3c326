-- The pieces of an instance that the parts of its DER show: the elements that begin, their leaves, and the elements that end.
use Rattle.std.specs.Prelude.{◌≡◌, ℕ, ◌+◌, List, [], ◌∷◌, ◌++◌, length, Option, Some, None, Ok, slice_get, if◌then◌else◌}
use Rattle.data_types.specs.Leaf.{Leaf, Bytes}
use Rattle.data_types.specs.Value.{Edge, Piece, Holds, Ends}
use Rattle.data_types.specs.Value as value
use Rattle.facets.specs.declared.simple.Simple.{Simple}
use Rattle.reference_check.specs.Forms.{Form, Slot, form_slots}
use Rattle.reference_check.specs.Forms as form
use Rattle.message_model.specs.Tables.{edge_at}
use Rattle.der_model.specs.DerMessage.{DerMessage}
use Rattle.der_model.specs.LeafContents.{ContentsUnder}
use Rattle.der_model.specs.Structures.{Spot, Instance, Value, ListOf, NumberOf, PrimitiveContents, LeafOf, Fragment, Structure, is_single, structure}
use Rattle.der_model.specs.Structures as structures
use Rattle.der_model.specs.States.{Part, Identifier, End, part_octets, DerLevel, State, AwaitsContents, Within, IdentifierAnswer, Begins, Breaks, level_answer, state_after}
use Rattle.der_model.specs.States as states

-- elements begin, the outermost first
abbrev pub begin_each : List Edge → List Piece
begin_each [] = []
begin_each (edge ∷ edges) = value.Begins edge ∷ begin_each edges

-- elements end, the innermost first
abbrev pub end_each : List Edge → List Piece
end_each [] = []
end_each (edge ∷ edges) = end_each edges ++ Ends edge ∷ []

-- the alternatives of a choice; none where the type is another
abbrev pub alternatives_of : {P : Type 0} → Form P Simple → List (Slot P)
alternatives_of (form.Choice slots) = slots
alternatives_of form = []

-- the element of slot k of the type of a parent, where the slot has its value in the place of a list; a list is no element
abbrev pub slot_elements : ℕ → ℕ → Option (Slot ℕ) → List Edge
slot_elements parent k None = []
slot_elements parent k (Some s) = if is_single s then edge_at parent k (Some s) ∷ [] else []

-- The elements that begin with component k of a value, the outermost first: the element of slot k; an item of a list, and in an item that is a choice
-- the element of its alternative k; none with the code or the number of an amount.
abbrev pub component_elements : DerMessage ℕ → Spot ℕ → ℕ → List Edge
component_elements m Instance k = slot_elements m.root k (slice_get (form_slots (m.forms m.root)) k)
component_elements m (Value p) k = slot_elements p k (slice_get (form_slots (m.forms p)) k)
component_elements m (ListOf p number s) k = edge_at p number (Some s) ∷ slot_elements s.target k (slice_get (alternatives_of (m.forms s.target)) k)
component_elements m (NumberOf p) k = []

-- those that begin with identifier octets in a level, by what these are there
abbrev pub elements_begun : DerMessage ℕ → DerLevel ℕ → IdentifierAnswer ℕ → List Edge
elements_begun m l (Begins k c) = component_elements m l.spot k
elements_begun m l (Breaks rule added) = []

-- those that began with the component that came last
abbrev pub last_elements : DerMessage ℕ → Spot ℕ → List ℕ → List Edge
last_elements m spot [] = []
last_elements m spot (k ∷ came) = component_elements m spot k

-- those that end with a value, which is the last component of the level round it; none with the instance
abbrev pub elements_ended : DerMessage ℕ → List (DerLevel ℕ) → List Edge
elements_ended m [] = []
elements_ended m (l ∷ around) = last_elements m l.spot l.came

-- the leaf of contents octets; that of an envelope is the fragment itself
abbrev pub IsContentsLeaf : PrimitiveContents → List ℕ → Leaf → Type 0
IsContentsLeaf (LeafOf simple) octets leaf = ContentsUnder simple octets (Ok leaf)
IsContentsLeaf Fragment octets leaf = leaf ≡ Bytes octets

abbrev pub IsLeafIn : {P : Type 0} → Structure P → List ℕ → Leaf → Type 0
IsLeafIn (structures.Holds contents) octets leaf = IsContentsLeaf contents octets leaf
IsLeafIn _ octets leaf = ⊥

-- The part, which comes in the state, shows these pieces: identifier octets the elements that begin, contents a leaf and then the elements that end
-- with their value, the end of a constructed value the elements that end with it. Length octets show none, nor do the identifier octets of the instance.
abbrev pub PartShows : DerMessage ℕ → State ℕ → Part → List Piece → Type 0
PartShows m (Within (l ∷ around)) (Identifier constructed tag) shown = shown ≡ begin_each (elements_begun m l (level_answer m l constructed tag))
PartShows m (AwaitsContents spot names count around) (states.Contents octets) shown =
    (leaf : Leaf) × IsLeafIn (structure m spot) octets leaf × (shown ≡ Holds leaf ∷ end_each (elements_ended m around))
PartShows m (Within (l ∷ around)) End shown = shown ≡ end_each (elements_ended m around)
PartShows m state part shown = shown ≡ []

-- Parts one after the other, the first of which comes in the state at the place, show these pieces.
abbrev pub PartsShow : DerMessage ℕ → State ℕ → ℕ → List Part → List Piece → Type 0
PartsShow m state place [] shown = shown ≡ []
PartsShow m state place (part ∷ parts) shown =
    (first : List Piece) × (behind : List Piece) × PartShows m state part first × PartsShow m (state_after m state place part) (place + length (part_octets part)) parts behind
    × (shown ≡ first ++ behind)
