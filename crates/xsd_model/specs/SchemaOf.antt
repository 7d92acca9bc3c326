-- The schema of the compiled types of a message.
use Rattle.std.specs.Prelude.{◌≡◌, ℕ, ◌<◌, List, [], ◌∷◌, ◌++◌, Option, Some, None, map, flat_map, length, slice_get, codes}
use Rattle.std.specs.List.{AllByRecursion, IsDistinct}
use Rattle.std.specs.Str.{bytes_eq}
use Rattle.std.specs.Cmp.Lexicographic.{slice_cmp}
use Rattle.std.specs.Ordering.{nat_cmp}
use Rattle.std.specs.declared.cmp.Ordering.{Ordering}
use Rattle.std.specs.declared.cmp.Ordering.TheVariants.{Less, Equal, Greater}
use Rattle.facets.specs.declared.simple.Simple.{Simple}
use Rattle.reference_check.specs.Forms.{Form, Slot}
use Rattle.reference_check.specs.Forms as form
use Rattle.message_model.specs.Tables.{Tables, TypeEntry, types_of, message_namespace}
use Rattle.xsd_model.specs.StepsOf.{steps_of, IsSoundSimple}
use Rattle.xsd_model.specs.declared.schema.Part.{Part}
use Rattle.xsd_model.specs.declared.schema.Schema.{Schema}
use Rattle.xsd_model.specs.declared.schema.SchemaShape.TheVariants as shape
use Rattle.xsd_model.specs.declared.schema.SchemaType.{SchemaType}

abbrev pub name_or_none : Option TypeEntry → List ℕ
name_or_none None = []
name_or_none (Some entry) = entry.name

-- the name of each type by its number, and none where there is no type
abbrev pub schema_name_of : Tables → ℕ → List ℕ
schema_name_of tables number = name_or_none (slice_get tables.types number)

-- the name of the number of an amount with a currency
abbrev pub base_name : List ℕ → List ℕ
base_name name = name ++ codes "_SimpleType"

abbrev pub part_of : (ℕ → List ℕ) → Slot ℕ → Part
part_of name slot = record { tag = slot.tag; target = name slot.target; min = slot.min; max = slot.max }

-- the types of a schema that a type of the message is: its own, and before it that of the number of an amount
abbrev pub types_by : (ℕ → List ℕ) → List ℕ → Form ℕ Simple → List SchemaType
types_by name own (form.Sequence slots) = record { name = own; shape = shape.Sequence (map (part_of name) slots) } ∷ []
types_by name own (form.Choice slots) = record { name = own; shape = shape.Choice (map (part_of name) slots) } ∷ []
types_by name own (form.Simple simple) = record { name = own; shape = shape.Simple (steps_of simple) } ∷ []
types_by name own (form.Money code number) =
    record { name = base_name own; shape = shape.Simple (steps_of number) } ∷ record { name = own; shape = shape.Money (base_name own) (name code) } ∷ []
types_by name own form.Envelope = record { name = own; shape = shape.Any } ∷ []
types_by name own form.LeftOut = []
types_by name own form.Missing = []

abbrev pub types_of_entry : Tables → TypeEntry → List SchemaType
types_of_entry tables entry = types_by (schema_name_of tables) entry.name entry.form

-- put before the first of a greater name
abbrev pub placed_type : Ordering → SchemaType → SchemaType → List SchemaType → List SchemaType → List SchemaType
placed_type Less type first rest more = type ∷ first ∷ rest
placed_type Equal type first rest more = type ∷ first ∷ rest
placed_type Greater type first rest more = first ∷ more

abbrev pub insert_type : SchemaType → List SchemaType → List SchemaType
insert_type type [] = type ∷ []
insert_type type (first ∷ rest) = placed_type (slice_cmp nat_cmp type.name first.name) type first rest (insert_type type rest)

-- sorted by the bytes of their names
abbrev pub sorted_types : List SchemaType → List SchemaType
sorted_types [] = []
sorted_types (type ∷ types) = insert_type type (sorted_types types)

-- the types before they are sorted: in the order of the message's types
abbrev pub all_types : Tables → List SchemaType
all_types tables = flat_map (types_of_entry tables) tables.types

abbrev pub schema_of : Tables → Schema
schema_of tables = record { namespace = message_namespace tables; types = sorted_types (all_types tables) }

abbrev pub names : List SchemaType → List (List ℕ)
names types = map (λ (type : SchemaType). type.name) types

-- a type of the message is one of instances, and its facets are sound
abbrev pub HasSoundFacets : {P : Type 0} → Form P Simple → Type 0
HasSoundFacets (form.Simple simple) = IsSoundSimple simple
HasSoundFacets (form.Money code number) = IsSoundSimple number
HasSoundFacets form.LeftOut = ⊥
HasSoundFacets form.Missing = ⊥
HasSoundFacets other = Unit {0}

-- What the types of a message are that breaks no rule of the repository: the names that the schema gives are distinct and none is empty,
-- type 0 is `Document`, and facets are sound.
pub record HasSoundNames (tables : Tables) : Type 0 where
  pub root : schema_name_of tables 0 ≡ codes "Document"
  pub distinct : IsDistinct bytes_eq (names (all_types tables))
  pub some : AllByRecursion (λ name. 0 < length name) (names (all_types tables))
  pub facets : (number : ℕ) → number < length tables.types → HasSoundFacets (types_of tables number)
