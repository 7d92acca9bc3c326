-- The elements of an instance that are open, and what an event makes of them.
use Rattle.std.specs.Prelude.{ℕ, Bool, true, false, List, [], ◌∷◌, ◌++◌, Option, Some, None, slice_get, codes}
use Rattle.std.specs.Fmt.{decimal}
use Rattle.lexical_core.specs.Tree.{Expanded, Item, Starts, Char, Ends, Skipped}
use Rattle.facets.specs.declared.simple.Simple.{Simple}
use Rattle.reference_check.specs.Forms.{Graph, Form, Slot, form_slots}
use Rattle.reference_check.specs.Forms as form
use Rattle.reference_check.specs.Words.{times}
use Rattle.reference_check.specs.Steps.{NextSlot, Slotted, next}
use Rattle.message_model.specs.Message.{Message}

-- An element that is open: one with elements of the message, and the slots that have come; one with a text, and its characters so far;
-- an envelope, and whether its element has come; an element in an envelope.
pub data Level (P : Type 0) : Type 0 where
  Parent : (form : Form P Simple) (came : List ℕ) → Level P
  Leaf : (simple : Simple) (text : List ℕ) → Level P
  Envelope : (filled : Bool) → Level P
  Foreign : Level P

-- an element of a type, with nothing in it
abbrev pub begun_level : {P : Type 0} → Form P Simple → Level P
begun_level (form.Simple simple) = Leaf simple []
begun_level (form.Money code number) = Leaf number []
begun_level form.Envelope = Envelope false
begun_level f = Parent f []

abbrev pub slot_form : {P : Type 0} → Graph P Simple → Option (Slot P) → Option (Form P Simple)
slot_form g None = None
slot_form g (Some s) = Some (g s.target)

abbrev pub form_by : {P : Type 0} → Graph P Simple → Form P Simple → NextSlot → Option (Form P Simple)
form_by g f (Slotted k) = slot_form g (slice_get (form_slots f) k)
form_by g f _ = None

-- the form of an element that starts; none in an envelope
abbrev pub form_of_start : {P : Type 0} → Message P → List (Level P) → Expanded → Option (Form P Simple)
form_of_start m [] n = Some (m.forms m.root)
form_of_start m (Parent f d ∷ ls) n = form_by m.forms f (next f d n.local)
form_of_start m _ n = None

abbrev pub level_of_start : {P : Type 0} → Option (Form P Simple) → Level P
level_of_start None = Foreign
level_of_start (Some f) = begun_level f

abbrev pub with_slot : List ℕ → NextSlot → List ℕ
with_slot d (Slotted k) = d ++ k ∷ []
with_slot d _ = d

-- the elements round one that starts
abbrev pub round_start : {P : Type 0} → List (Level P) → Expanded → List (Level P)
round_start [] n = []
round_start (Parent f d ∷ ls) n = Parent f (with_slot d (next f d n.local)) ∷ ls
round_start (Envelope filled ∷ ls) n = Envelope true ∷ ls
round_start ls n = ls

-- one more character
abbrev pub with_char : {P : Type 0} → Level P → ℕ → Level P
with_char (Leaf simple text) c = Leaf simple (text ++ c ∷ [])
with_char l c = l

-- the open elements behind an event, the innermost first
abbrev pub levels_after : {P : Type 0} → Message P → List (Level P) → Item → List (Level P)
levels_after m ls (Starts n attributes) = level_of_start (form_of_start m ls n) ∷ round_start ls n
levels_after m [] item = []
levels_after m (l ∷ ls) (Char c) = with_char l c ∷ ls
levels_after m (l ∷ ls) (Ends n) = ls
levels_after m (l ∷ ls) Skipped = l ∷ ls

-- behind several
abbrev pub levels_over : {P : Type 0} → Message P → List (Level P) → List Item → List (Level P)
levels_over m ls [] = ls
levels_over m ls (item ∷ items) = levels_over m (levels_after m ls item) items

-- ---- the path

abbrev pub slot_tag_text : {P : Type 0} → Option (Slot P) → List ℕ
slot_tag_text None = []
slot_tag_text (Some s) = 47 ∷ s.tag

-- a slash, the tag of a slot, and which of its elements this is
abbrev pub numbered_step : {P : Type 0} → Form P Simple → ℕ → ℕ → List ℕ
numbered_step f k n = slot_tag_text (slice_get (form_slots f) k) ++ 91 ∷ decimal n ++ 93 ∷ []

-- the last element that has come: d are the slots so far, of which the rest are still to be gone through
abbrev pub last_name : {P : Type 0} → Form P Simple → List ℕ → List ℕ → List ℕ
last_name f d [] = []
last_name f d (k ∷ []) = numbered_step f k (times k d)
last_name f d (k ∷ j ∷ rest) = last_name f d (j ∷ rest)

-- the path of an element, where these are open round it; elements in an envelope have none of their own
abbrev pub path_in : {P : Type 0} → List (Level P) → List ℕ
path_in [] = codes "/Document[1]"
path_in (Parent f d ∷ ls) = path_in ls ++ last_name f d d
path_in (l ∷ ls) = path_in ls

-- the path of the open elements
abbrev pub levels_path : {P : Type 0} → List (Level P) → List ℕ
levels_path [] = codes "/"
levels_path (l ∷ ls) = path_in ls
