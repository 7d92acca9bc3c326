-- What stands in the DER of a message: each value with the tags of what it may hold (the table of the message's types as ASN.1).
use Rattle.std.specs.Prelude.{ℕ, suc, Bool, true, false, List, [], ◌∷◌, Option, Some, nat_lt, if◌then◌else◌, codes}
use Rattle.data_types.specs.declared.kind.Kind.{Kind}
use Rattle.data_types.specs.declared.kind.Kind.TheVariants as kind
use Rattle.facets.specs.declared.simple.Simple.{Simple}
use Rattle.der_octets.specs.Octets.{Tag, universal, context}
use Rattle.reference_check.specs.Forms.{Graph, Form, Slot}
use Rattle.reference_check.specs.Forms as form
pub use Rattle.message_model.specs.Options.{is_once}
use Rattle.der_model.specs.DerMessage.{DerMessage}

-- a value of the DER: the whole instance, a value of a type, the list of a slot, the number of an amount of a type
pub data Spot (P : Type 0) : Type 0 where
  Instance : Spot P
  Value : (place : P) → Spot P
  ListOf : (parent : P) (number : ℕ) (slot : Slot P) → Spot P
  NumberOf : (place : P) → Spot P

-- how a value is named in a path: an element by its tag and number, a list by its tag, an attribute, or not at all
pub data Label : Type 0 where
  Element : (tag : List ℕ) → Label
  Listed : (tag : List ℕ) → Label
  Attribute : (name : List ℕ) → Label
  Unnamed : Label

-- what may come in an open value: its form and tag, whether it has to come, its name, and what it is
pub record Component (P : Type 0) : Type 0 where
  pub constructed : Bool
  pub tag : Tag
  pub required : Bool
  pub label : Label
  pub spot : Spot P

-- the contents octets of a primitive value
pub data PrimitiveContents : Type 0 where
  LeafOf : (simple : Simple) → PrimitiveContents
  Fragment : PrimitiveContents

-- what a value holds: octets; components in order, each at most once; one component; or items, each one of the components
pub data Structure (P : Type 0) : Type 0 where
  Holds : PrimitiveContents → Structure P
  Fields : List (Component P) → Structure P
  OneOf : List (Component P) → Structure P
  Items : (slot : Slot P) → List (Component P) → Structure P
  Empty : Structure P

-- a slot with the maximum 1 has its value in the place of a list
abbrev pub is_single : {P : Type 0} → Slot P → Bool
is_single s = is_once s.max

-- a value of the form is constructed: SEQUENCE, CHOICE under an explicit tag
abbrev pub is_constructed : {P : Type 0} → Form P Simple → Bool
is_constructed (form.Sequence slots) = true
is_constructed (form.Choice slots) = true
is_constructed (form.Money code number) = true
is_constructed _ = false

-- UTF8String, REAL, BOOLEAN, OCTET STRING, VisibleString: X.680 §8.4
abbrev pub kind_number : Kind → ℕ
kind_number kind.Text = 12
kind_number kind.Decimal = 9
kind_number kind.Boolean = 1
kind_number kind.Binary = 4
kind_number k = 26

-- ENUMERATED where there are codes
abbrev pub simple_number : Kind → Option (List (List ℕ)) → ℕ
simple_number kind.Text (Some texts) = 10
simple_number k texts = kind_number k

-- the universal tag of a type; a choice has none
abbrev pub universal_tag : {P : Type 0} → Form P Simple → Tag
universal_tag (form.Simple simple) = universal (simple_number simple.kind simple.codes)
universal_tag form.Envelope = universal 12
universal_tag _ = universal 16

-- the component of slot k of the type p: under [k] the value itself, or a list, which is always there
abbrev pub component : {P : Type 0} → Graph P Simple → P → ℕ → Slot P → Component P
component types p k s = record {
  constructed = if is_single s then is_constructed (types s.target) else true;
  tag = context k;
  required = if is_single s then nat_lt 0 s.min else true;
  label = if is_single s then Element s.tag else Listed s.tag;
  spot = if is_single s then Value s.target else ListOf p k s;
}

-- the components of slots, the first of which has number k
abbrev pub components : {P : Type 0} → Graph P Simple → P → ℕ → List (Slot P) → List (Component P)
components types p k [] = []
components types p k (s ∷ slots) = component types p k s ∷ components types p (suc k) slots

-- what an item of a list may be: a value under its universal tag, or a choice under the tag of its alternative
abbrev pub item_components : {P : Type 0} → Graph P Simple → P → Form P Simple → List (Component P)
item_components types p (form.Choice slots) = components types p 0 slots
item_components types p f = record { constructed = is_constructed f; tag = universal_tag f; required = false; label = Unnamed; spot = Value p } ∷ []

-- the components of an amount: its code and its number
abbrev pub amount_components : {P : Type 0} → P → P → List (Component P)
amount_components p code =
    record { constructed = false; tag = context 0; required = true; label = Attribute (codes "Ccy"); spot = Value code }
    ∷ record { constructed = false; tag = context 1; required = true; label = Unnamed; spot = NumberOf p } ∷ []

-- what a value of the type p, of this form, holds
abbrev pub form_structure : {P : Type 0} → Graph P Simple → P → Form P Simple → Structure P
form_structure types p (form.Sequence slots) = Fields (components types p 0 slots)
form_structure types p (form.Choice slots) = OneOf (components types p 0 slots)
form_structure types p (form.Simple simple) = Holds (LeafOf simple)
form_structure types p (form.Money code number) = Fields (amount_components p code)
form_structure types p form.Envelope = Holds Fragment
form_structure types p form.LeftOut = Empty
form_structure types p form.Missing = Empty

-- what the number of an amount holds
abbrev pub number_structure : {P : Type 0} → Form P Simple → Structure P
number_structure (form.Money code number) = Holds (LeafOf number)
number_structure _ = Empty

-- what a value holds
abbrev pub structure : {P : Type 0} → DerMessage P → Spot P → Structure P
structure m Instance = form_structure m.forms m.root (m.forms m.root)
structure m (Value p) = form_structure m.forms p (m.forms p)
structure m (ListOf p k s) = Items s (item_components m.forms s.target (m.forms s.target))
structure m (NumberOf p) = number_structure (m.forms p)
