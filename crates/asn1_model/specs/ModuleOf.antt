-- The module of the compiled types of a message.
use Rattle.std.specs.Prelude.{ℕ, suc, Bool, List, [], ◌∷◌, ◌++◌, Option, Some, None, map, if◌then◌else◌, ◌==◌, codes}
use Rattle.std.specs.Cmp.Lexicographic.{slice_cmp}
use Rattle.std.specs.Ordering.{nat_cmp, is_lt}
use Rattle.data_types.specs.declared.kind.Kind.{Kind}
use Rattle.data_types.specs.declared.kind.Kind.TheVariants as kind
use Rattle.facets.specs.declared.simple.Simple.{Simple}
use Rattle.facets.specs.declared.step.Step.{Step}
use Rattle.facets.specs.Steps.{plain_step, least_written}
use Rattle.reference_check.specs.Forms.{Form, Slot}
use Rattle.reference_check.specs.Forms as form
use Rattle.message_model.specs.Tables.{Tables, TypeEntry, types_of}
use Rattle.der_model.specs.Structures.{is_single}
use Rattle.asn1_model.specs.Names.{asn_identifier, asn_type_name, given_names}
use Rattle.asn1_model.specs.declared.module.Module.{Module}
use Rattle.asn1_model.specs.declared.module.AsnType.{AsnType}
use Rattle.asn1_model.specs.declared.module.AsnShape.{AsnShape}
use Rattle.asn1_model.specs.declared.module.AsnShape.TheVariants as shape
use Rattle.asn1_model.specs.declared.module.Field.{Field}
use Rattle.asn1_model.specs.declared.module.Mode.{Mode}
use Rattle.asn1_model.specs.declared.module.Mode.TheVariants as mode

-- a type of the tables: its number and its name
pub record Numbered : Type 0 where
  pub number : ℕ
  pub name : List ℕ

abbrev pub comes_before : Numbered → Numbered → Bool
comes_before t u = is_lt (slice_cmp nat_cmp t.name u.name)

abbrev pub insert_numbered : Numbered → List Numbered → List Numbered
insert_numbered t [] = t ∷ []
insert_numbered t (u ∷ us) = if comes_before u t then u ∷ insert_numbered t us else t ∷ u ∷ us

abbrev pub sorted_from : ℕ → List TypeEntry → List Numbered
sorted_from k [] = []
sorted_from k (t ∷ ts) = insert_numbered (record { number = k; name = t.name }) (sorted_from (suc k) ts)

-- the types sorted by the bytes of their names
abbrev pub by_name : Tables → List Numbered
by_name T = sorted_from 0 T.types

abbrev pub type_name_of : Numbered → List ℕ
type_name_of t = asn_type_name t.name

-- the names that they are given
abbrev pub names_given : Tables → List (List ℕ)
names_given T = given_names (map type_name_of (by_name T))

abbrev pub name_in : List Numbered → List (List ℕ) → ℕ → List ℕ
name_in (t ∷ ts) (n ∷ ns) p = if t.number == p then n else name_in ts ns p
name_in ts ns p = []

-- the name of a type; none where there is no such type
abbrev pub asn_name_of : Tables → ℕ → List ℕ
asn_name_of T p = name_in (by_name T) (names_given T) p

-- the lengths of a text or of octets
abbrev pub sized_step : Simple → Step
sized_step s = record (plain_step (Some s.kind)) { min = least_written s.min; max = s.max }

-- the digits and the bounds of a number
abbrev pub number_step : Simple → Step
number_step s = record (plain_step (Some s.kind)) { total = Some s.total; fraction = s.fraction; low = s.low; high = s.high }

abbrev pub step_by : Kind → Simple → Step
step_by kind.Text s = sized_step s
step_by kind.Binary s = sized_step s
step_by kind.Decimal s = number_step s
step_by k s = plain_step (Some k)

-- the facets of a simple type that its kind has
abbrev pub step_of : Simple → Step
step_of s = step_by s.kind s

-- the identifiers of codes
abbrev pub code_names : List (List ℕ) → List (List ℕ)
code_names texts = given_names (map asn_identifier texts)

abbrev pub shape_by : Kind → Option (List (List ℕ)) → Simple → AsnShape
shape_by kind.Text (Some texts) s = shape.Enumerated texts (code_names texts)
shape_by k texts s = shape.Plain k (step_of s) s.pattern

abbrev pub simple_shape : Simple → AsnShape
simple_shape s = shape_by s.kind s.codes s

abbrev pub mode_of : {P : Type 0} → Slot P → Mode
mode_of s = if is_single s then (if s.min == 0 then mode.Optional else mode.Required) else mode.List s.min s.max

-- the identifier of a slot, before clashes
abbrev pub slot_identifier : {P : Type 0} → Slot P → List ℕ
slot_identifier s = if is_single s then asn_identifier s.tag else asn_identifier s.tag ++ codes "-list"

abbrev pub field_of : {P : Type 0} → (P → List ℕ) → Slot P → List ℕ → Field
field_of name s given = record { name = given; target = name s.target; mode = mode_of s }

abbrev pub fields_with : {P : Type 0} → (P → List ℕ) → List (Slot P) → List (List ℕ) → List Field
fields_with name (s ∷ fs) (n ∷ ns) = field_of name s n ∷ fields_with name fs ns
fields_with name fs ns = []

abbrev pub fields_of : {P : Type 0} → (P → List ℕ) → List (Slot P) → List Field
fields_of name fs = fields_with name fs (given_names (map slot_identifier fs))

-- the shape of a form
abbrev pub shape_of : {P : Type 0} → (P → List ℕ) → Form P Simple → Option AsnShape
shape_of name (form.Sequence fs) = Some (shape.Sequence (fields_of name fs))
shape_of name (form.Choice fs) = Some (shape.Choice (fields_of name fs))
shape_of name (form.Simple s) = Some (simple_shape s)
shape_of name (form.Money c s) = Some (shape.Money (name c) (step_of s))
shape_of name form.Envelope = Some shape.Fragment
shape_of name form.LeftOut = None
shape_of name form.Missing = None

-- a type of this name, before others, where it has a shape
abbrev pub with_shape : List ℕ → Option AsnShape → List AsnType → List AsnType
with_shape name None rest = rest
with_shape name (Some s) rest = record { name = name; shape = s } ∷ rest

abbrev pub types_with : Tables → List Numbered → List (List ℕ) → List AsnType
types_with T (t ∷ ts) (n ∷ ns) = with_shape n (shape_of (asn_name_of T) (types_of T t.number)) (types_with T ts ns)
types_with T ts ns = []

-- the module of the tables
unfoldable pub module_of : Tables → Module
module_of T = record { name = asn_type_name T.id; types = types_with T (by_name T) (names_given T) }
