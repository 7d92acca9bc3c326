-- The text of a schema: a function of the schema alone. Each line ends with LF, and two spaces stand before it for each level. An element
-- without children is closed at once.
use Rattle.std.specs.Prelude.{ℕ, ◌+◌, ◌*◌, ◌==◌, ◌||◌, Bool, true, false, if◌then◌else◌, List, [], ◌∷◌, ◌++◌, replicate, flat_map, Option, Some, None, codes}
use Rattle.std.specs.Fmt.{decimal}
use Rattle.std.specs.List.{concat}
use Rattle.std.specs.Option.{is_some}
use Rattle.lexical_core.specs.Decimals.{decimal_spelling}
use Rattle.lexical_core.specs.CanonicalDecimals.{canonical_parts}
use Rattle.data_types.specs.Escaping.{escaped_bytes}
use Rattle.data_types.specs.declared.kind.Kind.{Kind}
use Rattle.data_types.specs.declared.kind.Kind.TheVariants as kind
use Rattle.facets.specs.declared.simple.Bound.{Bound}
use Rattle.facets.specs.declared.step.Step.{Step}
use Rattle.xsd_model.specs.declared.schema.Part.{Part}
use Rattle.xsd_model.specs.declared.schema.Schema.{Schema}
use Rattle.xsd_model.specs.declared.schema.SchemaShape.{SchemaShape}
use Rattle.xsd_model.specs.declared.schema.SchemaShape.TheVariants as shape
use Rattle.xsd_model.specs.declared.schema.SchemaType.{SchemaType}

-- a line at a level; its last text ends with LF
abbrev pub line : ℕ → List (List ℕ) → List ℕ
line level texts = replicate (2 * level) 32 ++ concat texts

-- ---- elements

abbrev pub min_text : ℕ → List ℕ
min_text min = if min == 1 then [] else concat (codes " minOccurs=\"" ∷ decimal min ∷ codes "\"" ∷ [])

abbrev pub max_text : Option ℕ → List ℕ
max_text None = codes " maxOccurs=\"unbounded\""
max_text (Some max) = if max == 1 then [] else concat (codes " maxOccurs=\"" ∷ decimal max ∷ codes "\"" ∷ [])

abbrev pub schema_part_text : Part → List ℕ
schema_part_text part =
    line 3 (codes "<xs:element name=\"" ∷ escaped_bytes true part.tag ∷ codes "\" type=\"" ∷ escaped_bytes true part.target ∷ codes "\"" ∷ min_text part.min ∷ max_text part.max ∷ codes "/>\n" ∷ [])

-- a content model: `sequence` or `choice`
abbrev pub model_text : List ℕ → List Part → List ℕ
model_text word [] = line 2 (codes "<xs:" ∷ word ∷ codes "/>\n" ∷ [])
model_text word (part ∷ parts) = line 2 (codes "<xs:" ∷ word ∷ codes ">\n" ∷ []) ++ (flat_map schema_part_text (part ∷ parts) ++ line 2 (codes "</xs:" ∷ word ∷ codes ">\n" ∷ []))

-- ---- facets

abbrev pub facet_text : ℕ → List ℕ → List ℕ → List ℕ
facet_text level word value = line level (codes "<xs:" ∷ word ∷ codes " value=\"" ∷ value ∷ codes "\"/>\n" ∷ [])

abbrev pub number_facet : ℕ → List ℕ → Option ℕ → List ℕ
number_facet level word None = []
number_facet level word (Some n) = facet_text level word (decimal n)

abbrev pub bound_facet : ℕ → List ℕ → List ℕ → Option Bound → List ℕ
bound_facet level strict word None = []
bound_facet level strict word (Some bound) = facet_text level (if bound.strict then strict else word) (decimal_spelling (canonical_parts bound.value))

abbrev pub value_facet : ℕ → List ℕ → List ℕ → List ℕ
value_facet level word value = facet_text level word (escaped_bytes true value)

abbrev pub facets_text : ℕ → Step → List ℕ
facets_text level step = concat (
    number_facet level (codes "totalDigits") step.total
    ∷ number_facet level (codes "fractionDigits") step.fraction
    ∷ bound_facet level (codes "minExclusive") (codes "minInclusive") step.low
    ∷ bound_facet level (codes "maxExclusive") (codes "maxInclusive") step.high
    ∷ number_facet level (codes "minLength") step.min
    ∷ number_facet level (codes "maxLength") step.max
    ∷ flat_map (value_facet level (codes "enumeration")) step.codes
    ∷ flat_map (value_facet level (codes "pattern")) step.patterns
    ∷ [])

abbrev pub has_some : {T : Type 0} → List T → Bool
has_some [] = false
has_some (x ∷ xs) = true

abbrev pub has_facets : Step → Bool
has_facets step =
    is_some step.total || is_some step.fraction || is_some step.low || is_some step.high || is_some step.min || is_some step.max
    || has_some step.codes || has_some step.patterns

-- ---- simple types

abbrev pub base_word : Kind → List ℕ
base_word kind.Text = codes "string"
base_word kind.Decimal = codes "decimal"
base_word kind.Boolean = codes "boolean"
base_word kind.Binary = codes "base64Binary"
base_word kind.Date = codes "date"
base_word kind.DateTime = codes "dateTime"
base_word kind.Time = codes "time"
base_word kind.Year = codes "gYear"
base_word kind.YearMonth = codes "gYearMonth"
base_word kind.MonthDay = codes "gMonthDay"
base_word kind.Month = codes "gMonth"
base_word kind.Day = codes "gDay"
base_word kind.Envelope = codes "anySimpleType"

abbrev pub base_text : Option Kind → List ℕ
base_text None = []
base_text (Some k) = concat (codes " base=\"xs:" ∷ base_word k ∷ codes "\"" ∷ [])

-- the step with the base
abbrev pub first_text : Step → ℕ → List ℕ
first_text step level =
    if has_facets step
    then line level (codes "<xs:restriction" ∷ base_text step.base ∷ codes ">\n" ∷ []) ++ (facets_text (level + 1) step ++ line level (codes "</xs:restriction>\n" ∷ []))
    else line level (codes "<xs:restriction" ∷ base_text step.base ∷ codes "/>\n" ∷ [])

-- a later step, round those before it
abbrev pub later_text : (ℕ → List ℕ) → Step → ℕ → List ℕ
later_text inner step level =
    line level (codes "<xs:restriction>\n" ∷ [])
    ++ (line (level + 1) (codes "<xs:simpleType>\n" ∷ [])
    ++ (inner (level + 2)
    ++ (line (level + 1) (codes "</xs:simpleType>\n" ∷ [])
    ++ (facets_text (level + 1) step
    ++ line level (codes "</xs:restriction>\n" ∷ [])))))

abbrev pub steps_from : (ℕ → List ℕ) → List Step → ℕ → List ℕ
steps_from inner [] = inner
steps_from inner (step ∷ steps) = steps_from (later_text inner step) steps

abbrev pub steps_text : List Step → List ℕ
steps_text [] = []
steps_text (step ∷ steps) = steps_from (first_text step) steps 2

-- ---- types

abbrev pub complex_text : List ℕ → List ℕ → List ℕ
complex_text name inner = line 1 (codes "<xs:complexType name=\"" ∷ escaped_bytes true name ∷ codes "\">\n" ∷ []) ++ (inner ++ line 1 (codes "</xs:complexType>\n" ∷ []))

abbrev pub amount_text : List ℕ → List ℕ → List ℕ
amount_text base code =
    line 2 (codes "<xs:simpleContent>\n" ∷ [])
    ++ (line 3 (codes "<xs:extension base=\"" ∷ escaped_bytes true base ∷ codes "\">\n" ∷ [])
    ++ (line 4 (codes "<xs:attribute name=\"Ccy\" type=\"" ∷ escaped_bytes true code ∷ codes "\" use=\"required\"/>\n" ∷ [])
    ++ (line 3 (codes "</xs:extension>\n" ∷ [])
    ++ line 2 (codes "</xs:simpleContent>\n" ∷ []))))

abbrev pub any_text : List ℕ
any_text =
    line 2 (codes "<xs:sequence>\n" ∷ [])
    ++ (line 3 (codes "<xs:any namespace=\"##any\" processContents=\"skip\"/>\n" ∷ [])
    ++ line 2 (codes "</xs:sequence>\n" ∷ []))

abbrev pub shape_text : List ℕ → SchemaShape → List ℕ
shape_text name (shape.Sequence parts) = complex_text name (model_text (codes "sequence") parts)
shape_text name (shape.Choice parts) = complex_text name (model_text (codes "choice") parts)
shape_text name (shape.Simple steps) =
    line 1 (codes "<xs:simpleType name=\"" ∷ escaped_bytes true name ∷ codes "\">\n" ∷ []) ++ (steps_text steps ++ line 1 (codes "</xs:simpleType>\n" ∷ []))
shape_text name (shape.Money base code) = complex_text name (amount_text base code)
shape_text name shape.Any = complex_text name any_text

abbrev pub type_text : SchemaType → List ℕ
type_text type = shape_text type.name type.shape

abbrev pub head_text : List ℕ → List ℕ
head_text namespace =
    concat (codes "<?xml version=\"1.0\" encoding=\"UTF-8\"?>\n<xs:schema xmlns=\"" ∷ escaped_bytes true namespace
    ∷ codes "\" xmlns:xs=\"http://www.w3.org/2001/XMLSchema\" elementFormDefault=\"qualified\" targetNamespace=\"" ∷ escaped_bytes true namespace
    ∷ codes "\">\n  <xs:element name=\"Document\" type=\"Document\"/>\n" ∷ [])

abbrev pub schema_text : Schema → List ℕ
schema_text schema = head_text schema.namespace ++ (flat_map type_text schema.types ++ codes "</xs:schema>\n")
