-- The least rule on an instance that an event breaks, behind those before it, and the path that is told with it.
use Rattle.std.specs.Prelude.{◌≡◌, ◌⊎◌, ℕ, Bool, ◌&&◌, ◌||◌, not, true, false, List, [], ◌∷◌, ◌++◌, Option, Some, None, slice_get, codes, if◌then◌else◌}
use Rattle.std.specs.List.{list_any}
use Rattle.std.specs.Str.{bytes_eq, chars}
use Rattle.lexical_core.specs.declared.rule.Rule.{Rule}
use Rattle.lexical_core.specs.declared.rule.Rule.TheVariants.{WrongRoot, UnknownElement, OutOfOrder, TooMany, Missing, SecondAlternative, TextInComplex, ElementInSimple, UnknownAttribute, MissingAttribute}
use Rattle.lexical_core.specs.Tree.{Expanded, Entry, Item, Starts, Char, Ends, Skipped}
use Rattle.lexical_core.specs.Names.{same_name, attribute_value}
use Rattle.data_types.specs.Leaf as leaf
use Rattle.facets.specs.declared.simple.Simple.{Simple}
use Rattle.facets.specs.Rules.{BreaksFirst}
use Rattle.facets.specs.LeafUnder.{GivesLeaf}
use Rattle.markup.specs.Chars.{is_space}
use Rattle.reference_check.specs.Forms.{Form, form_slots}
use Rattle.reference_check.specs.Forms as form
use Rattle.reference_check.specs.Steps as step
use Rattle.reference_check.specs.Steps.{NextSlot, EndOfSlots, next, end_after}
use Rattle.message_model.specs.Writes.{name_in_namespace, schema_instance, currency}
use Rattle.message_model.specs.Message.{Message}
use Rattle.xml_instances.specs.Levels.{Level, Parent, Leaf, Envelope, Foreign, form_of_start, round_start, levels_after, path_in, slot_tag_text}

-- a rule that is broken, and the path that is told with it
pub record Broken : Type 0 where
  pub rule : Rule
  pub path : List ℕ

abbrev pub broken_rule : Rule → List ℕ → Option Broken
broken_rule rule path = Some (record { rule = rule; path = path })

-- the first of two, where there is one, and else the other
abbrev pub Unless : Option Broken → (Option Broken → Type 0) → Option Broken → Type 0
Unless (Some b) Other o = o ≡ Some b
Unless None Other o = Other o

-- ---- where an element starts

-- at its tag, in an element with this path
abbrev pub next_fault : {P : Type 0} → List ℕ → Form P Simple → NextSlot → Option Broken
next_fault path f (step.Slotted k) = None
next_fault path f step.Unknown = broken_rule UnknownElement path
next_fault path f step.OutOfOrder = broken_rule OutOfOrder path
next_fault path f step.TooMany = broken_rule TooMany path
next_fault path f (step.Missing k) = broken_rule Missing (path ++ slot_tag_text (slice_get (form_slots f) k))
next_fault path f step.Second = broken_rule SecondAlternative path

-- at its place: the root is `Document`; an element of the message stands where its slot may come; a text has no elements; an envelope has one
abbrev pub place_fault : {P : Type 0} → Message P → List (Level P) → Expanded → Option Broken
place_fault m [] n = if same_name n (name_in_namespace m.namespace (codes "Document")) then None else broken_rule WrongRoot (codes "/")
place_fault m (Parent f d ∷ ls) n =
    if bytes_eq n.namespace m.namespace then next_fault (path_in ls) f (next f d n.local) else broken_rule UnknownElement (path_in ls)
place_fault m (Leaf simple text ∷ ls) n = broken_rule ElementInSimple (path_in ls)
place_fault m (Envelope true ∷ ls) n = broken_rule TooMany (path_in ls)
place_fault m (Envelope false ∷ ls) n = None
place_fault m (Foreign ∷ ls) n = None

abbrev pub is_hint : Entry → Bool
is_hint a = same_name a.name (name_in_namespace schema_instance (codes "schemaLocation")) || same_name a.name (name_in_namespace schema_instance (codes "noNamespaceSchemaLocation"))

abbrev pub has_currency : {P : Type 0} → Form P Simple → Bool
has_currency (form.Money code number) = true
has_currency _ = false

-- a hint, or the currency of an amount that has one
abbrev pub is_known : {P : Type 0} → Form P Simple → Entry → Bool
is_known f a = is_hint a || (has_currency f && same_name a.name currency)

-- a text: the leaf that it spells, or the least rule that it breaks
abbrev pub LeafFault : Simple → List ℕ → List ℕ → Option Broken → Type 0
LeafFault simple text path None = (l : leaf.Leaf) × GivesLeaf simple text l
LeafFault simple text path (Some b) = BreaksFirst simple text b.rule × (b.path ≡ path)

-- the same of the code of an amount, under the form of its type
abbrev pub CodeFault : {P : Type 0} → Form P Simple → List ℕ → List ℕ → Option Broken → Type 0
CodeFault (form.Simple simple) text path o = LeafFault simple text path o
CodeFault _ text path o = ⊥

-- an amount's currency is there, and spells its code
abbrev pub CurrencyFault : {P : Type 0} → Form P Simple → Option (List ℕ) → List ℕ → Option Broken → Type 0
CurrencyFault f None path o = o ≡ broken_rule MissingAttribute path
CurrencyFault f (Some value) path o = CodeFault f (chars value) path o

abbrev pub RequiredFault : {P : Type 0} → Message P → Form P Simple → List Entry → List ℕ → Option Broken → Type 0
RequiredFault m (form.Money code number) attributes path o = CurrencyFault (m.forms code) (attribute_value currency attributes) (path ++ codes "/@Ccy") o
RequiredFault m _ attributes path o = o ≡ None

abbrev pub unknown_fault : {P : Type 0} → Form P Simple → List Entry → List ℕ → Option Broken
unknown_fault f attributes path = if list_any (λ a. not (is_known f a)) attributes then broken_rule UnknownAttribute path else None

-- at its attributes: all are known, and the required one is there and spells its leaf; in an envelope all may stand
abbrev pub AttributeFault : {P : Type 0} → Message P → Option (Form P Simple) → List Entry → List ℕ → Option Broken → Type 0
AttributeFault m None attributes path o = o ≡ None
AttributeFault m (Some f) attributes path o = Unless (unknown_fault f attributes path) (RequiredFault m f attributes path) o

-- ---- where one ends

abbrev pub end_fault : {P : Type 0} → List ℕ → Form P Simple → EndOfSlots → Option Broken
end_fault path f step.Fine = None
end_fault path f (step.Lacks k) = broken_rule Missing (path ++ slot_tag_text (slice_get (form_slots f) k))
end_fault path f step.NoAlternative = broken_rule Missing (path ++ codes "/*")

abbrev pub EndFault : {P : Type 0} → Level P → List ℕ → Option Broken → Type 0
EndFault (Parent f d) path o = o ≡ end_fault path f (end_after f d)
EndFault (Leaf simple text) path o = LeafFault simple text path o
EndFault (Envelope true) path o = o ≡ None
EndFault (Envelope false) path o = o ≡ broken_rule Missing (path ++ codes "/*")
EndFault Foreign path o = o ≡ None

-- ---- at a character

-- a type without elements takes no character
abbrev pub is_bare : {P : Type 0} → Form P Simple → Bool
is_bare (form.Sequence []) = true
is_bare _ = false

abbrev pub space_fault : Bool → List ℕ → Option Broken
space_fault fits path = if fits then None else broken_rule TextInComplex path

abbrev pub char_fault : {P : Type 0} → Level P → List ℕ → ℕ → Option Broken
char_fault (Parent f d) path c = space_fault (not (is_bare f) && is_space c) path
char_fault (Leaf simple text) path c = None
char_fault (Envelope filled) path c = space_fault (is_space c) path
char_fault Foreign path c = None

-- ---- at any event

-- what an event breaks where these elements are open, the innermost first; none where it breaks nothing
abbrev pub EventFault : {P : Type 0} → Message P → List (Level P) → Item → Option Broken → Type 0
EventFault m ls (Starts n attributes) o = Unless (place_fault m ls n) (AttributeFault m (form_of_start m ls n) attributes (path_in (round_start ls n))) o
EventFault m [] item o = o ≡ None
EventFault m (l ∷ ls) (Char c) o = o ≡ char_fault l (path_in ls) c
EventFault m (l ∷ ls) (Ends n) o = EndFault l (path_in ls) o
EventFault m (l ∷ ls) Skipped o = o ≡ None

-- the events break nothing
abbrev pub AreFine : {P : Type 0} → Message P → List (Level P) → List Item → Type 0
AreFine m ls [] = Unit {0}
AreFine m ls (item ∷ items) = EventFault m ls item None × AreFine m (levels_after m ls item) items

-- the first of them that breaks a rule breaks this one
abbrev pub FirstFault : {P : Type 0} → Message P → List (Level P) → List Item → Broken → Type 0
FirstFault m ls [] b = ⊥
FirstFault m ls (item ∷ items) b = EventFault m ls item (Some b) ⊎ (EventFault m ls item None × FirstFault m (levels_after m ls item) items b)
