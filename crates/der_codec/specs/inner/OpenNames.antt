-- The names of what is open, told by what is open alone, and how a path is written name by name.
use Rattle.std.specs.Prelude.{◌≡◌, ◌<◌, ℕ, zero, suc, List, [], ◌∷◌, length, ◌++◌, Option, Some, None, slice_get, codes, if◌then◌else◌}
use Rattle.facets.specs.declared.simple.Simple.{Simple}
use Rattle.reference_check.specs.Forms as graph
use Rattle.reference_check.specs.Forms.{Graph, form_slots}
use Rattle.der_model.specs.DerMessage.{DerMessage}
use Rattle.der_model.specs.Structures.{Component, Label, Unnamed, Structure, structure, is_single}
use Rattle.der_model.specs.States.{PathName, Numbered, ListName, AttributeName, State, Start, AwaitsLength, AwaitsContents, Within, names_in}
use Rattle.der_model.specs.States as states
use Rattle.der_model.specs.OpenParts.{components_of}
use Rattle.der_model.specs.Paths.{path_name_text}
use Rattle.der_codec.specs.Components.{slot_text}
use Rattle.der_codec.specs.declared.level.Spot.{Spot}
use Rattle.der_codec.specs.declared.level.Spot.TheVariants as spots
use Rattle.der_codec.specs.declared.level.Level.{Level}
use Rattle.der_codec.specs.declared.paths.Path.{Path}

-- ---- in the definitions

-- how a component is named; none is as one that has no name
abbrev pub label_of : {P : Type 0} → Option (Component P) → Label
label_of None = Unnamed
label_of (Some c) = c.label

-- the names of a component in a value of this structure, where these have come before it
abbrev pub names_of_part : {P : Type 0} → Structure P → List ℕ → Option (Component P) → List PathName
names_of_part s came o = names_in s came (label_of o)

-- the names of the component that came last in a value of this structure
abbrev pub names_at : {P : Type 0} → Structure P → List ℕ → List PathName
names_at s [] = []
names_at s (k ∷ came) = names_of_part s came (slice_get (components_of s) k)

-- the outermost value
abbrev pub document_names : List PathName
document_names = Numbered (codes "Document") 1 ∷ []

-- the names of what begins in these values
abbrev pub names_within : {P : Type 0} → DerMessage P → List (states.DerLevel P) → List PathName
names_within m [] = document_names
names_within m (l ∷ ls) = names_at (structure m l.spot) l.came

-- each open value has the names of the component that it is in those round it
abbrev pub AreNamed : {P : Type 0} → DerMessage P → List (states.DerLevel P) → Type 0
AreNamed m [] = Unit {0}
AreNamed m (l ∷ ls) = (l.names ≡ names_within m ls) × AreNamed m ls

-- the names are those of what is open
abbrev pub IsNamed : {P : Type 0} → DerMessage P → State P → Type 0
IsNamed m Start = Unit {0}
IsNamed m (AwaitsLength constructed spot names around) = (names ≡ names_within m around) × AreNamed m around
IsNamed m (AwaitsContents spot names count around) = (names ≡ names_within m around) × AreNamed m around
IsNamed m (Within levels) = AreNamed m levels

-- ---- by what a reader keeps

-- the names of a slot's value, or of its list
abbrev pub slot_names : Option (graph.Slot ℕ) → List PathName
slot_names None = []
slot_names (Some s) = if is_single s then Numbered s.tag 1 ∷ [] else ListName s.tag ∷ []

-- the names of the components of an amount: its code is an attribute, and its number has no name of its own
abbrev pub amount_names : ℕ → List PathName
amount_names zero = AttributeName (codes "Ccy") ∷ []
amount_names (suc k) = []

-- the names of the component of this number in a value of the form
abbrev pub form_names : graph.Form ℕ Simple → ℕ → List PathName
form_names (graph.Sequence slots) k = slot_names (slice_get slots k)
form_names (graph.Choice slots) k = slot_names (slice_get slots k)
form_names (graph.Money code number) k = amount_names k
form_names form k = []

-- those of the alternative of a choice, as an item of a list; any other item has none
abbrev pub alternative_names : graph.Form ℕ Simple → ℕ → List PathName
alternative_names (graph.Choice slots) k = slot_names (slice_get slots k)
alternative_names form k = []

-- the names of an item, which is the one of this count
abbrev pub item_names : Graph ℕ Simple → Option (graph.Slot ℕ) → ℕ → ℕ → List PathName
item_names types None count k = []
item_names types (Some s) count k = Numbered s.tag count ∷ alternative_names (types s.target) k

-- the names of the component of this number in a value at the spot, where so many have come with it
abbrev pub spot_names : Graph ℕ Simple → Spot → ℕ → ℕ → List PathName
spot_names types spots.Instance count k = form_names (types 0) k
spot_names types (spots.Value p) count k = form_names (types p) k
spot_names types (spots.List p j) count k = item_names types (slice_get (form_slots (types p)) j) count k
spot_names types (spots.Number p) count k = []

-- the same by the number of the component that comes next; 0 where none has come
abbrev pub numbered_names : Graph ℕ Simple → Spot → ℕ → ℕ → List PathName
numbered_names types spot zero count = []
numbered_names types spot (suc k) count = spot_names types spot count k

-- the names of the component that came last
abbrev pub level_names : Graph ℕ Simple → Level → List PathName
level_names types x = numbered_names types x.spot x.next x.count

-- names, and those of what began in these values, the outermost first
abbrev pub names_over : Graph ℕ Simple → List PathName → List Level → List PathName
names_over types names [] = names
names_over types names (x ∷ xs) = names_over types (names ++ level_names types x) xs

-- ---- as it is written

-- the names as they are written where others follow: a list is not
abbrev pub closed_text : List PathName → List ℕ
closed_text [] = []
closed_text (Numbered tag number ∷ ns) = (47 ∷ path_name_text (Numbered tag number)) ++ closed_text ns
closed_text (AttributeName name ∷ ns) = (47 ∷ path_name_text (AttributeName name)) ++ closed_text ns
closed_text (ListName tag ∷ ns) = closed_text ns

-- a name where it is the last: that of a list is written
abbrev pub list_alone : PathName → List ℕ
list_alone (ListName tag) = 47 ∷ tag
list_alone name = []

-- the last of the names where it is that of a list
abbrev pub last_list : List PathName → List ℕ
last_list [] = []
last_list (n ∷ []) = list_alone n
last_list (n ∷ k ∷ ns) = last_list (k ∷ ns)

-- the name of the list that is kept by its parent and its number
abbrev pub held_text : Graph ℕ Simple → Option (ℕ × ℕ) → List ℕ
held_text types None = []
held_text types (Some (p, k)) = slot_text (slice_get (form_slots (types p)) k)

-- these names are written, of which there are some; where the last is that of a list, it is kept
pub record HasNames (types : Graph ℕ Simple) (path : Path) (names : List PathName) : Type 0 where
  pub some : 0 < length names
  pub written : path.text ≡ closed_text names
  pub held : held_text types path.list ≡ last_list names
