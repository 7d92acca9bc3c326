-- The parts of DER, which of them may come after others, and what is open then.
use Rattle.std.specs.Prelude.{◌≡◌, ℕ, suc, ◌+◌, ◌<◌, ◌==◌, ◌&&◌, Bool, true, false, List, [], ◌∷◌, length, drop, Option, Some, None, nat_lt, if◌then◌else◌, codes}
use Rattle.lexical_core.specs.declared.rule.Rule.{Rule}
use Rattle.lexical_core.specs.declared.rule.Rule.TheVariants.{UnexpectedTag, DerMissing, DerTooMany, TooFew}
use Rattle.der_octets.specs.Octets.{Tag, class_bits, form_bit, identifier, length_octets, IsShortTag, IsShortLength}
use Rattle.reference_check.specs.Steps.{has_room}
use Rattle.der_model.specs.DerMessage.{DerMessage}
use Rattle.der_model.specs.Structures.{Spot, Instance, Label, Element, Listed, Attribute, Unnamed, Component, Structure, Holds, Fields, OneOf, Items, Empty, structure}

-- a part of DER: identifier octets, length octets, the whole contents of a primitive value, the end of a constructed one (X.690 §8.1.1.1)
pub data Part : Type 0 where
  Identifier : (constructed : Bool) (tag : Tag) → Part
  Length : (length : ℕ) → Part
  Contents : (octets : List ℕ) → Part
  End : Part

abbrev pub part_octets : Part → List ℕ
part_octets (Identifier constructed tag) = identifier constructed tag
part_octets (Length n) = length_octets n
part_octets (Contents octets) = octets
part_octets End = []

-- a name in a path: an element with its number, a list, an attribute
pub data PathName : Type 0 where
  Numbered : (tag : List ℕ) (number : ℕ) → PathName
  ListName : (tag : List ℕ) → PathName
  AttributeName : (name : List ℕ) → PathName

-- an open constructed value: what it is, its names, the numbers of the components that have come, the latest first, and the place where it ends
pub record DerLevel (P : Type 0) : Type 0 where
  pub spot : Spot P
  pub names : List PathName
  pub came : List ℕ
  pub end : ℕ

-- What is open: nothing yet; a value whose identifier octets alone have come; a primitive value whose contents are due, so many octets; or the
-- constructed values that have begun and not ended, innermost first, and none where the instance has ended.
pub data State (P : Type 0) : Type 0 where
  Start : State P
  AwaitsLength : (constructed : Bool) (spot : Spot P) (names : List PathName) (around : List (DerLevel P)) → State P
  AwaitsContents : (spot : Spot P) (names : List PathName) (count : ℕ) (around : List (DerLevel P)) → State P
  Within : (levels : List (DerLevel P)) → State P

-- what identifier octets are where they stand: a component that begins, or a rule that they break, with what is added to the path
pub data IdentifierAnswer (P : Type 0) : Type 0 where
  Begins : (number : ℕ) (component : Component P) → IdentifierAnswer P
  Breaks : (rule : Rule) (added : List ℕ) → IdentifierAnswer P

-- the form and tag of a component
abbrev pub is_under : {P : Type 0} → Component P → Bool → Tag → Bool
is_under c constructed tag = (class_bits c.tag.class + form_bit c.constructed == class_bits tag.class + form_bit constructed) && (c.tag.number == tag.number)

-- what is added to the path for one that is missing
abbrev pub missing_text : Label → List ℕ
missing_text (Element tag) = 47 ∷ tag
missing_text (Listed tag) = 47 ∷ tag
missing_text (Attribute name) = 47 ∷ 64 ∷ name
missing_text Unnamed = []

-- the answer where a component that has to come is skipped
abbrev pub skipping : {P : Type 0} → Label → IdentifierAnswer P → IdentifierAnswer P
skipping label (Begins k c) = Breaks DerMissing (missing_text label)
skipping label (Breaks UnexpectedTag added) = Breaks UnexpectedTag added
skipping label (Breaks rule added) = Breaks DerMissing (missing_text label)

-- components in order, of which the first has number k
abbrev pub field_answer : {P : Type 0} → ℕ → List (Component P) → Bool → Tag → IdentifierAnswer P
field_answer k [] constructed tag = Breaks UnexpectedTag []
field_answer k (c ∷ cs) constructed tag =
    let later = field_answer (suc k) cs constructed tag in
    if is_under c constructed tag then Begins k c else (if c.required then skipping c.label later else later)

-- one component of any place
abbrev pub any_answer : {P : Type 0} → ℕ → List (Component P) → Bool → Tag → IdentifierAnswer P
any_answer k [] constructed tag = Breaks UnexpectedTag []
any_answer k (c ∷ cs) constructed tag = let later = any_answer (suc k) cs constructed tag in if is_under c constructed tag then Begins k c else later

-- the number of the first component that may still come
abbrev pub next_number : List ℕ → ℕ
next_number [] = 0
next_number (k ∷ came) = suc k

-- one more item
abbrev pub item_answer : {P : Type 0} → Bool → IdentifierAnswer P → IdentifierAnswer P
item_answer true answer = answer
item_answer false (Begins k c) = Breaks DerTooMany []
item_answer false (Breaks rule added) = Breaks rule added

abbrev pub one_answer : {P : Type 0} → List ℕ → IdentifierAnswer P → IdentifierAnswer P
one_answer [] answer = answer
one_answer (k ∷ came) answer = Breaks UnexpectedTag []

-- identifier octets in a value of this structure, in which these components have come
abbrev pub identifier_answer : {P : Type 0} → Structure P → List ℕ → Bool → Tag → IdentifierAnswer P
identifier_answer (Fields cs) came constructed tag = field_answer (next_number came) (drop (next_number came) cs) constructed tag
identifier_answer (OneOf cs) came constructed tag = one_answer came (any_answer 0 cs constructed tag)
identifier_answer (Items s cs) came constructed tag = item_answer (has_room (length came) s.max) (any_answer 0 cs constructed tag)
identifier_answer (Holds contents) came constructed tag = Breaks UnexpectedTag []
identifier_answer Empty came constructed tag = Breaks UnexpectedTag []

-- what the end of a value is: fine, or a rule that it breaks
pub data EndAnswer : Type 0 where
  Fine : EndAnswer
  EndBreaks : (rule : Rule) (added : List ℕ) → EndAnswer

abbrev pub field_end : {P : Type 0} → List (Component P) → EndAnswer
field_end [] = Fine
field_end (c ∷ cs) = let later = field_end cs in if c.required then EndBreaks DerMissing (missing_text c.label) else later

abbrev pub one_end : List ℕ → EndAnswer
one_end [] = EndBreaks DerMissing (codes "/*")
one_end (k ∷ came) = Fine

abbrev pub item_end : Bool → EndAnswer
item_end true = EndBreaks TooFew []
item_end false = Fine

abbrev pub end_answer : {P : Type 0} → Structure P → List ℕ → EndAnswer
end_answer (Fields cs) came = field_end (drop (next_number came) cs)
end_answer (OneOf cs) came = one_end came
end_answer (Items s cs) came = item_end (nat_lt (length came) s.min)
end_answer (Holds contents) came = Fine
end_answer Empty came = Fine

-- the names of a component that begins
abbrev pub label_names : Label → List PathName
label_names (Element tag) = Numbered tag 1 ∷ []
label_names (Listed tag) = ListName tag ∷ []
label_names (Attribute name) = AttributeName name ∷ []
label_names Unnamed = []

-- the same in a value of this structure: an item has the tag of its list, and its number
abbrev pub names_in : {P : Type 0} → Structure P → List ℕ → Label → List PathName
names_in (Items s cs) came label = Numbered s.tag (suc (length came)) ∷ label_names label
names_in other came label = label_names label

-- the answer to identifier octets, and the state after those that begin a component
abbrev pub level_answer : {P : Type 0} → DerMessage P → DerLevel P → Bool → Tag → IdentifierAnswer P
level_answer m l constructed tag = identifier_answer (structure m l.spot) l.came constructed tag

abbrev pub begun_state : {P : Type 0} → DerMessage P → DerLevel P → List (DerLevel P) → Bool → IdentifierAnswer P → State P
begun_state m l ls constructed (Breaks rule added) = Within (l ∷ ls)
begun_state m l ls constructed (Begins k c) = AwaitsLength constructed c.spot (names_in (structure m l.spot) l.came c.label) (record l { came = k ∷ l.came } ∷ ls)

-- the place where contents of so many octets end, whose length octets stand at a place
abbrev pub end_from : ℕ → ℕ → ℕ
end_from place n = place + length (length_octets n) + n

-- the state after a part at a place
abbrev pub state_after : {P : Type 0} → DerMessage P → State P → ℕ → Part → State P
state_after m Start place (Identifier constructed tag) = AwaitsLength true Instance (Numbered (codes "Document") 1 ∷ []) []
state_after m (Within (l ∷ ls)) place (Identifier constructed tag) = begun_state m l ls constructed (level_answer m l constructed tag)
state_after m (AwaitsLength true spot names around) place (Length n) = Within (record { spot = spot; names = names; came = []; end = end_from place n } ∷ around)
state_after m (AwaitsLength false spot names around) place (Length n) = AwaitsContents spot names n around
state_after m (AwaitsContents spot names count around) place (Contents octets) = Within around
state_after m (Within (l ∷ ls)) place End = Within ls
state_after m state place part = state

-- the end of the innermost value whose length has come
abbrev pub level_end : {P : Type 0} → List (DerLevel P) → Option ℕ
level_end [] = None
level_end (l ∷ ls) = Some l.end

abbrev pub innermost_end : {P : Type 0} → State P → Option ℕ
innermost_end Start = None
innermost_end (AwaitsLength constructed spot names around) = level_end around
innermost_end (AwaitsContents spot names count around) = level_end around
innermost_end (Within levels) = level_end levels

-- identifier octets or length octets may come next, and these are some
abbrev pub IsHeader : {P : Type 0} → State P → ℕ → List ℕ → Type 0
IsHeader Start place octets = (constructed : Bool) × (tag : Tag) × IsShortTag tag × (octets ≡ identifier constructed tag)
IsHeader (AwaitsLength c spot names around) place octets = (n : ℕ) × IsShortLength n × (octets ≡ length_octets n)
IsHeader (AwaitsContents spot names count around) place octets = ⊥
IsHeader (Within []) place octets = ⊥
IsHeader (Within (l ∷ ls)) place octets = (place < l.end) × (constructed : Bool) × (tag : Tag) × IsShortTag tag × (octets ≡ identifier constructed tag)

-- the part may come next at the place, whatever it breaks
abbrev pub Stands : {P : Type 0} → State P → ℕ → Part → Type 0
Stands Start place (Identifier constructed tag) = IsShortTag tag
Stands (Within (l ∷ ls)) place (Identifier constructed tag) = (place < l.end) × IsShortTag tag
Stands (AwaitsLength c spot names around) place (Length n) = IsShortLength n
Stands (AwaitsContents spot names count around) place (Contents octets) = length octets ≡ count
Stands (Within (l ∷ ls)) place End = place ≡ l.end
Stands state place part = ⊥
