-- The values of a module's types, by X.680, and their DER, by X.690 under automatic tags. Nothing here speaks of messages.
use Rattle.std.specs.Prelude.{◌≡◌, ◌⊎◌, ℕ, suc, ◌≤◌, Bool, true, false, List, [], ◌∷◌, Option, Some, None, MatchOption, slice_get, map, if◌then◌else◌, Contains}
use Rattle.std.specs.Str.{bytes_eq}
use Rattle.lexical_core.specs.Tree.{Tree}
use Rattle.data_types.specs.Leaf.{Leaf, Bytes}
use Rattle.data_types.specs.declared.kind.Kind.TheVariants as kind
use Rattle.facets.specs.declared.step.Step.{Step}
use Rattle.der_octets.specs.Octets.{Tag, universal, context, Values, Nothing, octets, then_values}
use Rattle.fragments.specs.Plain.{IsPlain}
use Rattle.der_model.specs.LeafContents.{leaf_contents, integer_octets}
use Rattle.der_model.specs.Structures.{kind_number}
use Rattle.der_model.specs.Der.{Body, Octets, Inner, under, inner_of}
use Rattle.asn1_model.specs.declared.module.Module.{Module}
use Rattle.asn1_model.specs.declared.module.AsnType.{AsnType}
use Rattle.asn1_model.specs.declared.module.AsnShape.{AsnShape}
use Rattle.asn1_model.specs.declared.module.AsnShape.TheVariants as shape
use Rattle.asn1_model.specs.declared.module.Field.{Field}
use Rattle.asn1_model.specs.declared.module.Mode.{Mode}
use Rattle.asn1_model.specs.declared.module.Mode.TheVariants as mode
use Rattle.asn1_model.specs.Constraints.{IsPlainValue}

-- A value: of a sequence the components that are present, each with its number; of a choice the alternative that was chosen; of a list its
-- items; an identifier of an enumerated type; or a value without components.
mutual
  pub data AsnValue : Type 0 where
    Sequence : (components : Components) → AsnValue
    Chosen : (number : ℕ) (value : AsnValue) → AsnValue
    Listed : (items : Items) → AsnValue
    Enumerated : (identifier : List ℕ) → AsnValue
    Primitive : (leaf : Leaf) → AsnValue

  pub data Components : Type 0 where
    NoComponent : Components
    Component : (number : ℕ) (value : AsnValue) (rest : Components) → Components

  pub data Items : Type 0 where
    NoItem : Items
    Item : (value : AsnValue) (rest : Items) → Items

-- the type of this name; the first one, should there be more
abbrev pub find_asn_type : List ℕ → List AsnType → Option AsnShape
find_asn_type name [] = None
find_asn_type name (t ∷ ts) = if bytes_eq name t.name then Some t.shape else find_asn_type name ts

-- what stands where a value is due: a value of a type, or a list of values of a type with a size
pub data Due : Type 0 where
  One : Option AsnShape → Due
  Many : (min : ℕ) (max : Option ℕ) → Option AsnShape → Due

-- a component of a sequence, or an alternative
pub record AsnPart : Type 0 where
  pub optional : Bool
  pub due : Due

abbrev pub is_optional : Mode → Bool
is_optional mode.Optional = true
is_optional m = false

abbrev pub due_by : Mode → Option AsnShape → Due
due_by mode.Required s = One s
due_by mode.Optional s = One s
due_by (mode.List min max) s = Many min max s

abbrev pub asn_part_of : Module → Field → AsnPart
asn_part_of M f = record { optional = is_optional f.mode; due = due_by f.mode (find_asn_type f.target M.types) }

-- the code and the number of an amount
abbrev pub amount_parts : Module → List ℕ → Step → List AsnPart
amount_parts M code base =
    record { optional = false; due = One (find_asn_type code M.types) }
    ∷ record { optional = false; due = One (Some (shape.Plain kind.Decimal base None)) } ∷ []

-- the components of a type, or its alternatives
abbrev pub asn_parts_of : Module → Option AsnShape → List AsnPart
asn_parts_of M (Some (shape.Sequence fields)) = map (asn_part_of M) fields
asn_parts_of M (Some (shape.Choice fields)) = map (asn_part_of M) fields
asn_parts_of M (Some (shape.Money code base)) = amount_parts M code base
asn_parts_of M s = []

abbrev pub due_parts : Module → Due → List AsnPart
due_parts M (One s) = asn_parts_of M s
due_parts M (Many min max s) = []

abbrev pub item_type : Due → Option AsnShape
item_type (One s) = s
item_type (Many min max s) = s

-- the numbers of the components that are present
abbrev pub component_numbers : Components → List ℕ
component_numbers NoComponent = []
component_numbers (Component k a rest) = k ∷ component_numbers rest

abbrev pub count_of : Items → ℕ
count_of NoItem = 0
count_of (Item a rest) = suc (count_of rest)

-- these are present, in order, and only optional ones are left out: X.680 §25
abbrev pub ArePresent : ℕ → List AsnPart → List ℕ → Type 0
ArePresent k [] d = d ≡ []
ArePresent k (p ∷ ps) d = ((rest : List ℕ) × (d ≡ k ∷ rest) × ArePresent (suc k) ps rest) ⊎ ((p.optional ≡ true) × ArePresent (suc k) ps d)

-- a list is as long as its size says: X.680 §51.5
abbrev pub HasCount : ℕ → Option ℕ → ℕ → Type 0
HasCount min max n = (min ≤ n) × MatchOption max (Unit {0}) (λ most. n ≤ most)

-- the canonical fragment of some element that XML can spell, as the constraint says; how fragments are written is given
abbrev pub IsFragmentLeaf : (Tree → List ℕ) → Leaf → Type 0
IsFragmentLeaf fragment (Bytes bytes) = (tree : Tree) × IsPlain tree × (bytes ≡ fragment tree)
IsFragmentLeaf fragment leaf = ⊥

-- a value without components is one of the type
abbrev pub IsPrimitiveOf : (Tree → List ℕ) → Due → Leaf → Type 0
IsPrimitiveOf fragment (One (Some (shape.Plain k step pattern))) leaf = IsPlainValue k step pattern leaf
IsPrimitiveOf fragment (One (Some shape.Fragment)) leaf = IsFragmentLeaf fragment leaf
IsPrimitiveOf fragment d leaf = ⊥

-- the type has this identifier
abbrev pub IsIdentifierOf : Due → List ℕ → Type 0
IsIdentifierOf (One (Some (shape.Enumerated texts names))) name = Contains names name
IsIdentifierOf d name = ⊥

-- the forms of types whose values are sequences, and choices
abbrev pub IsSequenceType : Due → Type 0
IsSequenceType (One (Some (shape.Sequence fields))) = Unit {0}
IsSequenceType (One (Some (shape.Money code base))) = Unit {0}
IsSequenceType d = ⊥

abbrev pub IsChoiceType : Due → Type 0
IsChoiceType (One (Some (shape.Choice fields))) = Unit {0}
IsChoiceType d = ⊥

abbrev pub IsListOf : Due → ℕ → Type 0
IsListOf (Many min max s) n = HasCount min max n
IsListOf d n = ⊥

abbrev mutual
  -- the value is one of what is due: X.680
  pub AsnHas : (Tree → List ℕ) → Module → Due → AsnValue → Type 0
  AsnHas fragment M d (Sequence cs) = IsSequenceType d × ArePresent 0 (due_parts M d) (component_numbers cs) × HasComponents fragment M (due_parts M d) cs
  AsnHas fragment M d (Chosen k a) = IsChoiceType d × (p : AsnPart) × (slice_get (due_parts M d) k ≡ Some p) × AsnHas fragment M p.due a
  AsnHas fragment M d (Listed is) = IsListOf d (count_of is) × HasItems fragment M (item_type d) is
  AsnHas fragment M d (Enumerated name) = IsIdentifierOf d name
  AsnHas fragment M d (Primitive leaf) = IsPrimitiveOf fragment d leaf

  pub HasComponents : (Tree → List ℕ) → Module → List AsnPart → Components → Type 0
  HasComponents fragment M ps NoComponent = Unit {0}
  HasComponents fragment M ps (Component k a rest) = ((p : AsnPart) × (slice_get ps k ≡ Some p) × AsnHas fragment M p.due a) × HasComponents fragment M ps rest

  pub HasItems : (Tree → List ℕ) → Module → Option AsnShape → Items → Type 0
  HasItems fragment M s NoItem = Unit {0}
  HasItems fragment M s (Item a rest) = AsnHas fragment M (One s) a × HasItems fragment M s rest

-- the tag of a type that is not tagged; a choice has none: X.680 §8.4
abbrev pub type_tag : Option AsnShape → Tag
type_tag (Some (shape.Enumerated texts names)) = universal 10
type_tag (Some (shape.Plain k step pattern)) = universal (kind_number k)
type_tag (Some shape.Fragment) = universal 12
type_tag s = universal 16

-- the number of an identifier: X.680 §20.1
abbrev pub identifier_place : List ℕ → List (List ℕ) → ℕ
identifier_place name [] = 0
identifier_place name (n ∷ ns) = if bytes_eq name n then 0 else suc (identifier_place name ns)

abbrev pub identifier_number : Due → List ℕ → ℕ
identifier_number (One (Some (shape.Enumerated texts names))) name = identifier_place name names
identifier_number d name = 0

-- an item of a list: under its own tag; a choice stands as its alternative, X.690 §8.13
abbrev pub values_of_item : Option AsnShape → Body → Values → Values
values_of_item (Some (shape.Choice fields)) body rest = then_values (inner_of body) rest
values_of_item s body rest = under (type_tag s) body rest

-- what stands under the automatic tag of component k: implicit, and explicit on a choice, X.680 §25.7, §31.2.7, X.690 §8.14
abbrev pub tagged_values : ℕ → Option AsnPart → (Due → Body) → Values → Values
tagged_values k None inside rest = rest
tagged_values k (Some p) inside rest = under (context k) (inside p.due) rest

abbrev mutual
  -- the contents of a value: X.690 §8.2 to §8.14
  pub contents : Module → Due → AsnValue → Body
  contents M d (Sequence cs) = Inner (component_values M (due_parts M d) cs)
  contents M d (Chosen k a) = Inner (tagged_values k (slice_get (due_parts M d) k) (λ e. contents M e a) Nothing)
  contents M d (Listed is) = Inner (item_values M (item_type d) is)
  contents M d (Enumerated name) = Octets (integer_octets (identifier_number d name))
  contents M d (Primitive leaf) = Octets (leaf_contents leaf)

  pub component_values : Module → List AsnPart → Components → Values
  component_values M ps NoComponent = Nothing
  component_values M ps (Component k a rest) = tagged_values k (slice_get ps k) (λ e. contents M e a) (component_values M ps rest)

  pub item_values : Module → Option AsnShape → Items → Values
  item_values M s NoItem = Nothing
  item_values M s (Item a rest) = values_of_item s (contents M (One s) a) (item_values M s rest)

-- the type of this name has the value
abbrev pub HasAsnValue : (Tree → List ℕ) → Module → List ℕ → AsnValue → Type 0
HasAsnValue fragment M name a = AsnHas fragment M (One (find_asn_type name M.types)) a

-- the DER of a value of the type of this name
abbrev pub asn_der : Module → List ℕ → AsnValue → List ℕ
asn_der M name a = octets (values_of_item (find_asn_type name M.types) (contents M (One (find_asn_type name M.types)) a) Nothing)
