-- The pieces of a value that events show as they come.
use Rattle.std.specs.Prelude.{◌≡◌, ℕ, List, [], ◌∷◌, ◌++◌, Option, Some, None, slice_get}
use Rattle.std.specs.Str.{chars}
use Rattle.lexical_core.specs.Tree.{Entry, Item, Starts, Ends, Skipped, Tree, flat}
use Rattle.lexical_core.specs.Names.{attribute_value}
use Rattle.data_types.specs.Leaf as leaf
use Rattle.data_types.specs.Value.{Edge, Piece, Begins, Holds, Ends as EndsPiece}
use Rattle.facets.specs.LeafUnder.{GivesLeaf}
use Rattle.facets.specs.declared.simple.Simple.{Simple}
use Rattle.fragments.specs.Fragment.{fragment}
use Rattle.reference_check.specs.Forms.{Form, form_slots}
use Rattle.reference_check.specs.Forms as form
use Rattle.reference_check.specs.Steps.{NextSlot, Slotted, next}
use Rattle.message_model.specs.Tables.{Tables, types_of, message_of, edge_at}
use Rattle.message_model.specs.Writes.{currency, SpellsCode}
use Rattle.xml_instances.specs.Levels.{Level, Parent, Leaf, Envelope, Foreign, levels_after, form_of_start}

-- What events have shown: where the open elements stand, the innermost first (`Document` and elements in an envelope stand at no edge);
-- the events so far of the element of an envelope that is open; the pieces.
pub record Shown : Type 0 where
  pub edges : List Edge
  pub inside : List Item
  pub pieces : List Piece

abbrev pub nothing_shown : Shown
nothing_shown = record { edges = []; inside = []; pieces = [] }

-- ---- what is shown with one more event

-- the type of the innermost element of the message: without an edge it is that of `Document`
abbrev pub type_at : List Edge → ℕ
type_at [] = 0
type_at (e ∷ edges) = e.target

abbrev pub edge_by : ℕ → Form ℕ Simple → NextSlot → Option Edge
edge_by number f (Slotted k) = Some (edge_at number k (slice_get (form_slots f) k))
edge_by number f _ = None

-- where an element stands that starts
abbrev pub edge_of_start : List Edge → List (Level ℕ) → List ℕ → Option Edge
edge_of_start edges (Parent f d ∷ ls) local = edge_by (type_at edges) f (next f d local)
edge_of_start edges ls local = None

-- an element begins
abbrev pub with_begun : Option Edge → Shown → Shown
with_begun None s = s
with_begun (Some e) s = record { edges = e ∷ s.edges; inside = s.inside; pieces = s.pieces ++ Begins e ∷ [] }

-- the start of an element: in one with elements, at the slot that comes next
abbrev pub ChildShown : Form ℕ Simple → NextSlot → Shown → Shown → Type 0
ChildShown f comes s t = t ≡ with_begun (edge_by (type_at s.edges) f comes) s

abbrev pub StartShown : List (Level ℕ) → List ℕ → Shown → Shown → Type 0
StartShown ls local s t = t ≡ with_begun (edge_of_start s.edges ls local) s

-- one more leaf
abbrev pub with_leaf : leaf.Leaf → Shown → Shown
with_leaf l s = record { edges = s.edges; inside = s.inside; pieces = s.pieces ++ Holds l ∷ [] }

-- the innermost element ends
abbrev pub closed_at : List Edge → Shown → Shown
closed_at [] s = s
closed_at (e ∷ edges) s = record { edges = edges; inside = s.inside; pieces = s.pieces ++ EndsPiece e ∷ [] }

abbrev pub close_shown : Shown → Shown
close_shown s = closed_at s.edges s

abbrev pub with_inside : Item → Shown → Shown
with_inside item s = record { edges = s.edges; inside = s.inside ++ item ∷ []; pieces = s.pieces }

abbrev pub without_inside : Shown → Shown
without_inside s = record { edges = s.edges; inside = []; pieces = s.pieces }

-- an event of the element of an envelope is kept
abbrev pub with_event : List (Level ℕ) → Item → Shown → Shown
with_event (Foreign ∷ ls) Skipped s = s
with_event (Foreign ∷ ls) item s = with_inside item s
with_event (Envelope filled ∷ ls) (Starts n attributes) s = with_inside (Starts n attributes) s
with_event ls item s = s

-- the text is shown as the leaf that it spells
abbrev pub TextShown : Simple → List ℕ → Shown → Shown → Type 0
TextShown simple text s t = (l : leaf.Leaf) × GivesLeaf simple text l × (t ≡ with_leaf l s)

-- the currency is shown as the leaf that it spells under the form of a code
abbrev pub CurrencyShown : Form ℕ Simple → List Entry → Shown → Shown → Type 0
CurrencyShown f attributes s t = (w : List ℕ) × (l : leaf.Leaf) × (attribute_value currency attributes ≡ Some w) × SpellsCode f (chars w) l × (t ≡ with_leaf l s)

-- an element with a code, that of an amount, shows it
abbrev pub CodeShown : Tables → Option (Form ℕ Simple) → List Entry → Shown → Shown → Type 0
CodeShown T (Some (form.Money code number)) attributes s t = CurrencyShown (types_of T code) attributes s t
CodeShown T f attributes s t = t ≡ s

-- the element of an envelope is shown as its fragment
abbrev pub FragmentShown : Shown → Shown → Type 0
FragmentShown s t = (bytes : List ℕ) × ((tree : Tree) → s.inside ≡ flat tree → bytes ≡ fragment tree) × (t ≡ without_inside (with_leaf (leaf.Bytes bytes) s))

-- the leaf of an element that ends
abbrev pub LeafShown : Level ℕ → Shown → Shown → Type 0
LeafShown (Leaf simple text) s t = TextShown simple text s t
LeafShown (Envelope filled) s t = FragmentShown s t
LeafShown l s t = t ≡ s

abbrev pub with_end : Level ℕ → Shown → Shown
with_end Foreign s = s
with_end l s = close_shown s

-- the end of an element
abbrev pub EndShown : Level ℕ → Shown → Shown → Type 0
EndShown l s t = (u : Shown) × LeafShown l s u × (t ≡ with_end l u)

-- what an event shows, but that it may be one of the element of an envelope
abbrev pub ShowsBeside : Tables → List (Level ℕ) → Item → Shown → Shown → Type 0
ShowsBeside T ls (Starts n attributes) s t = (u : Shown) × StartShown ls n.local s u × CodeShown T (form_of_start (message_of T) ls n) attributes u t
ShowsBeside T (l ∷ ls) (Ends n) s t = EndShown l s t
ShowsBeside T ls item s t = t ≡ s

-- an event, where these elements are open, shows these pieces beside those before
abbrev pub EventShows : Tables → List (Level ℕ) → Item → Shown → Shown → Type 0
EventShows T ls item s t = ShowsBeside T ls item (with_event ls item s) t

-- several events
abbrev pub EventsShow : Tables → List (Level ℕ) → List Item → Shown → Shown → Type 0
EventsShow T ls [] s t = t ≡ s
EventsShow T ls (item ∷ items) s t = (u : Shown) × EventShows T ls item s u × EventsShow T (levels_after (message_of T) ls item) items u t
