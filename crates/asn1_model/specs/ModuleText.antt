-- A module as it is written: X.680 §13, with one layout.
use Rattle.std.specs.Prelude.{ℕ, zero, suc, Bool, true, false, List, [], ◌∷◌, ◌++◌, Option, Some, None, ◌==◌, ◌||◌, ◌&&◌, if◌then◌else◌, codes, flat_map}
use Rattle.std.specs.Fmt.{decimal}
use Rattle.std.specs.List.{concat}
use Rattle.lexical_core.specs.Decimals.{decimal_spelling}
use Rattle.lexical_core.specs.CanonicalDecimals.{canonical_parts}
use Rattle.data_types.specs.declared.kind.Kind.{Kind}
use Rattle.data_types.specs.declared.kind.Kind.TheVariants as kind
use Rattle.facets.specs.declared.simple.Bound.{Bound}
use Rattle.facets.specs.declared.step.Step.{Step}
use Rattle.asn1_model.specs.declared.module.Module.{Module}
use Rattle.asn1_model.specs.declared.module.AsnType.{AsnType}
use Rattle.asn1_model.specs.declared.module.AsnShape.{AsnShape}
use Rattle.asn1_model.specs.declared.module.AsnShape.TheVariants as shape
use Rattle.asn1_model.specs.declared.module.Field.{Field}
use Rattle.asn1_model.specs.declared.module.Mode.{Mode}
use Rattle.asn1_model.specs.declared.module.Mode.TheVariants as mode

-- ---- constraints

-- a user-defined constraint, whose texts are a comment: X.682 §9
abbrev pub constraint_text : List (List ℕ) → List ℕ
constraint_text texts = concat (codes " (CONSTRAINED BY {-- " ∷ (texts ++ (codes " --})" ∷ [])))

abbrev pub size_start : Option ℕ → ℕ
size_start None = 0
size_start (Some n) = n

abbrev pub size_end : Option ℕ → List ℕ
size_end None = codes "MAX"
size_end (Some n) = decimal n

-- a size: X.680 §51.5; none, where there is no bound
abbrev pub size_text : Option ℕ → Option ℕ → List ℕ
size_text None None = []
size_text min max = concat (codes " (SIZE (" ∷ decimal (size_start min) ∷ codes ".." ∷ size_end max ∷ codes "))" ∷ [])

-- the byte does not end or break the comment: a hyphen has a space behind it where another follows, and a line end is a space
abbrev pub comment_byte : ℕ → ℕ
comment_byte c = if c == 10 || c == 13 then 32 else c

abbrev pub comment_part : ℕ → Bool → List ℕ
comment_part c before_hyphen = if c == 45 && before_hyphen then 45 ∷ 32 ∷ [] else comment_byte c ∷ []

abbrev pub begins_with_hyphen : List ℕ → Bool
begins_with_hyphen [] = false
begins_with_hyphen (c ∷ cs) = c == 45

-- a text within a comment: X.680 §12.6
abbrev pub comment_text : List ℕ → List ℕ
comment_text [] = []
comment_text (c ∷ cs) = comment_part c (begins_with_hyphen cs) ++ comment_text cs

abbrev pub pattern_constraint : Option (List ℕ) → List ℕ
pattern_constraint None = []
pattern_constraint (Some pattern) = constraint_text (codes "pattern " ∷ comment_text pattern ∷ [])

abbrev pub digits_constraint : List ℕ → Option ℕ → List ℕ
digits_constraint word None = []
digits_constraint word (Some n) = constraint_text (word ∷ decimal n ∷ [])

abbrev pub strictness : Bool → List ℕ
strictness true = codes "Exclusive "
strictness false = codes "Inclusive "

abbrev pub bound_constraint : List ℕ → Option Bound → List ℕ
bound_constraint side None = []
bound_constraint side (Some bound) = constraint_text (side ∷ strictness bound.strict ∷ decimal_spelling (canonical_parts bound.value) ∷ [])

-- ---- types of one value

-- the type of decimals
abbrev pub number_texts : Step → List (List ℕ)
number_texts step =
    codes "REAL (WITH COMPONENTS {..., base (10)})"
    ∷ digits_constraint (codes "totalDigits ") step.total
    ∷ digits_constraint (codes "fractionDigits ") step.fraction
    ∷ bound_constraint (codes "min") step.low
    ∷ bound_constraint (codes "max") step.high
    ∷ []

-- a type of dates or times, by its name in XML Schema part 2
abbrev pub date_text : List ℕ → Option (List ℕ) → List ℕ
date_text word pattern = concat (codes "VisibleString" ∷ constraint_text (word ∷ codes " profile" ∷ []) ∷ pattern_constraint pattern ∷ [])

abbrev pub plain_text : Kind → Step → Option (List ℕ) → List ℕ
plain_text kind.Text step pattern = concat (codes "UTF8String" ∷ size_text step.min step.max ∷ constraint_text (codes "xml characters" ∷ []) ∷ pattern_constraint pattern ∷ [])
plain_text kind.Decimal step pattern = concat (number_texts step)
plain_text kind.Boolean step pattern = codes "BOOLEAN"
plain_text kind.Binary step pattern = concat (codes "OCTET STRING" ∷ size_text step.min step.max ∷ [])
plain_text kind.Date step pattern = date_text (codes "xs:date") pattern
plain_text kind.DateTime step pattern = date_text (codes "xs:dateTime") pattern
plain_text kind.Time step pattern = date_text (codes "xs:time") pattern
plain_text kind.Year step pattern = date_text (codes "xs:gYear") pattern
plain_text kind.YearMonth step pattern = date_text (codes "xs:gYearMonth") pattern
plain_text kind.MonthDay step pattern = date_text (codes "xs:gMonthDay") pattern
plain_text kind.Month step pattern = date_text (codes "xs:gMonth") pattern
plain_text kind.Day step pattern = date_text (codes "xs:gDay") pattern
plain_text kind.Envelope step pattern = []

-- ---- types of several lines

-- what stands before the line of this number: a comma behind each line but the last
abbrev pub separator : ℕ → List ℕ
separator zero = codes "\n  "
separator (suc k) = codes ",\n  "

-- the lines of items, numbered from here on; a line is made of texts
abbrev pub lines_from : {X : Type 0} → (ℕ → X → List (List ℕ)) → ℕ → List X → List ℕ
lines_from line k [] = []
lines_from line k (x ∷ xs) = concat (separator k ∷ line k x) ++ lines_from line (suc k) xs

-- the lines of items in braces, numbered from 0
abbrev pub braces : {X : Type 0} → List ℕ → (ℕ → X → List (List ℕ)) → List X → List ℕ
braces word line items = concat (word ∷ codes " {" ∷ lines_from line 0 items ∷ codes "\n}" ∷ [])

-- how often a component of that type comes
abbrev pub mode_texts : Mode → List ℕ → List (List ℕ)
mode_texts mode.Required target = target ∷ []
mode_texts mode.Optional target = target ∷ codes " OPTIONAL" ∷ []
mode_texts (mode.List min max) target = codes "SEQUENCE" ∷ size_text (Some min) max ∷ codes " OF " ∷ target ∷ []

abbrev pub field_line : ℕ → Field → List (List ℕ)
field_line k field = field.name ∷ codes " " ∷ mode_texts field.mode field.target

-- a named number: X.680 §20.1
abbrev pub code_line : ℕ → List ℕ → List (List ℕ)
code_line k name = name ∷ codes "(" ∷ decimal k ∷ codes ")" ∷ []

abbrev pub own_line : ℕ → List (List ℕ) → List (List ℕ)
own_line k texts = texts

-- the currency and the number of an amount
abbrev pub money_lines : List ℕ → Step → List (List (List ℕ))
money_lines code base = (codes "ccy " ∷ code ∷ []) ∷ (codes "base " ∷ number_texts base) ∷ []

-- ---- the module

abbrev pub asn_shape_text : AsnShape → List ℕ
asn_shape_text (shape.Sequence fields) = braces (codes "SEQUENCE") field_line fields
asn_shape_text (shape.Choice fields) = braces (codes "CHOICE") field_line fields
asn_shape_text (shape.Enumerated texts names) = braces (codes "ENUMERATED") code_line names
asn_shape_text (shape.Money code base) = braces (codes "SEQUENCE") own_line (money_lines code base)
asn_shape_text (shape.Plain k step pattern) = plain_text k step pattern
asn_shape_text shape.Fragment = codes "UTF8String" ++ constraint_text (codes "canonical fragment" ∷ [])

abbrev pub asn_type_text : AsnType → List ℕ
asn_type_text type = concat (type.name ∷ codes " ::= " ∷ asn_shape_text type.shape ∷ codes "\n\n" ∷ [])

-- the module: X.680 §13.1
abbrev pub module_text : Module → List ℕ
module_text M = concat (M.name ∷ codes " DEFINITIONS AUTOMATIC TAGS ::= BEGIN\n\n" ∷ flat_map asn_type_text M.types ∷ codes "END\n" ∷ [])
