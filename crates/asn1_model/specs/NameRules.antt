-- What X.680 asks of the names that stand in a module. Nothing here speaks of how they are made.
use Rattle.std.specs.Prelude.{◌≡◌, ◌⊎◌, ℕ, Bool, true, false, List, [], ◌∷◌, Some, slice_get, map, codes}
use Rattle.std.specs.List.{AllByRecursion}
use Rattle.asn1_model.specs.Names.{is_upper, is_lower, is_in_name, hyphen, is_name_among}
use Rattle.asn1_model.specs.declared.module.Module.{Module}
use Rattle.asn1_model.specs.declared.module.AsnType.{AsnType}
use Rattle.asn1_model.specs.declared.module.AsnShape.{AsnShape}
use Rattle.asn1_model.specs.declared.module.AsnShape.TheVariants as shape
use Rattle.asn1_model.specs.declared.module.Field.{Field}

-- ---- names that are distinct

-- none stands at two places
abbrev pub AreDistinct : List (List ℕ) → Type 0
AreDistinct names = (i j : ℕ) (name : List ℕ) → slice_get names i ≡ Some name → slice_get names j ≡ Some name → i ≡ j

abbrev pub field_names : List Field → List (List ℕ)
field_names fields = map (λ (f : Field). f.name) fields

-- the identifiers of the components of a sequence, of the alternatives of a choice, or of the items of an enumerated type; of an amount those that `ModuleText` writes
abbrev pub identifiers_in : AsnShape → List (List ℕ)
identifiers_in (shape.Sequence fields) = field_names fields
identifiers_in (shape.Choice fields) = field_names fields
identifiers_in (shape.Enumerated texts names) = names
identifiers_in (shape.Money code base) = codes "ccy" ∷ codes "base" ∷ []
identifiers_in (shape.Plain k step pattern) = []
identifiers_in shape.Fragment = []

abbrev pub names_of_types : List AsnType → List (List ℕ)
names_of_types types = map (λ (t : AsnType). t.name) types

-- No two types have one name (X.680 §16), and no two components (§25), alternatives (§29) or items (§20) of a type one identifier.
pub record HasDistinctNames (M : Module) : Type 0 where
  pub types : AreDistinct (names_of_types M.types)
  pub identifiers : AllByRecursion (λ (t : AsnType). AreDistinct (identifiers_in t.shape)) M.types

-- ---- the form of names

-- a letter or a digit stands first
abbrev pub BeginsInName : List ℕ → Type 0
BeginsInName [] = ⊥
BeginsInName (c ∷ cs) = is_in_name c ≡ true

-- letters, digits and hyphens, of which none is the last or has another behind it
abbrev pub GoesOnAsName : List ℕ → Type 0
GoesOnAsName [] = Unit {0}
GoesOnAsName (c ∷ cs) = ((is_in_name c ≡ true) ⊎ ((c ≡ hyphen) × BeginsInName cs)) × GoesOnAsName cs

-- a name whose first byte is of this class
abbrev pub IsNameWith : (ℕ → Bool) → List ℕ → Type 0
IsNameWith is_first [] = ⊥
IsNameWith is_first (c ∷ cs) = (is_first c ≡ true) × GoesOnAsName cs

-- an identifier: §12.3
abbrev pub IsIdentifier : List ℕ → Type 0
IsIdentifier = IsNameWith is_lower

-- the reserved words: §12.38
unfoldable pub reserved_words : List (List ℕ)
reserved_words =
    codes "ABSENT" ∷ codes "ABSTRACT-SYNTAX" ∷ codes "ALL" ∷ codes "APPLICATION" ∷ codes "AUTOMATIC" ∷ codes "BEGIN" ∷ codes "BIT" ∷ codes "BMPString" ∷ codes "BOOLEAN"
    ∷ codes "BY" ∷ codes "CHARACTER" ∷ codes "CHOICE" ∷ codes "CLASS" ∷ codes "COMPONENT" ∷ codes "COMPONENTS" ∷ codes "CONSTRAINED" ∷ codes "CONTAINING" ∷ codes "DATE"
    ∷ codes "DATE-TIME" ∷ codes "DEFAULT" ∷ codes "DEFINITIONS" ∷ codes "DURATION" ∷ codes "EMBEDDED" ∷ codes "ENCODED" ∷ codes "ENCODING-CONTROL" ∷ codes "END"
    ∷ codes "ENUMERATED" ∷ codes "EXCEPT" ∷ codes "EXPLICIT" ∷ codes "EXPORTS" ∷ codes "EXTENSIBILITY" ∷ codes "EXTERNAL" ∷ codes "FALSE" ∷ codes "FROM"
    ∷ codes "GeneralizedTime" ∷ codes "GeneralString" ∷ codes "GraphicString" ∷ codes "IA5String" ∷ codes "IDENTIFIER" ∷ codes "IMPLICIT" ∷ codes "IMPLIED"
    ∷ codes "IMPORTS" ∷ codes "INCLUDES" ∷ codes "INSTANCE" ∷ codes "INSTRUCTIONS" ∷ codes "INTEGER" ∷ codes "INTERSECTION" ∷ codes "ISO646String" ∷ codes "MAX"
    ∷ codes "MIN" ∷ codes "MINUS-INFINITY" ∷ codes "NOT-A-NUMBER" ∷ codes "NULL" ∷ codes "NumericString" ∷ codes "OBJECT" ∷ codes "ObjectDescriptor" ∷ codes "OCTET"
    ∷ codes "OF" ∷ codes "OID-IRI" ∷ codes "OPTIONAL" ∷ codes "PATTERN" ∷ codes "PDV" ∷ codes "PLUS-INFINITY" ∷ codes "PRESENT" ∷ codes "PrintableString"
    ∷ codes "PRIVATE" ∷ codes "REAL" ∷ codes "RELATIVE-OID" ∷ codes "RELATIVE-OID-IRI" ∷ codes "SEQUENCE" ∷ codes "SET" ∷ codes "SETTINGS" ∷ codes "SIZE"
    ∷ codes "STRING" ∷ codes "SYNTAX" ∷ codes "T61String" ∷ codes "TAGS" ∷ codes "TeletexString" ∷ codes "TIME" ∷ codes "TIME-OF-DAY" ∷ codes "TRUE"
    ∷ codes "TYPE-IDENTIFIER" ∷ codes "UNION" ∷ codes "UNIQUE" ∷ codes "UNIVERSAL" ∷ codes "UniversalString" ∷ codes "UTCTime" ∷ codes "UTF8String"
    ∷ codes "VideotexString" ∷ codes "VisibleString" ∷ codes "WITH" ∷ []

-- the name of a type, §12.2, or of a module, §12.5
pub record IsReference (name : List ℕ) : Type 0 where
  pub form : IsNameWith is_upper name
  pub free : is_name_among reserved_words name ≡ false

-- The names of a module and of its types are references, and those of the parts of a type are identifiers.
pub record HasNameForms (M : Module) : Type 0 where
  pub name : IsReference M.name
  pub types : AllByRecursion (λ (t : AsnType). IsReference t.name) M.types
  pub identifiers : AllByRecursion (λ (t : AsnType). AllByRecursion IsIdentifier (identifiers_in t.shape)) M.types
