-- Which simple type a data type of a repository is (ISO 20022-1, data types; XML Schema part 2).
use Rattle.std.specs.Prelude.{ℕ, true, false, List, [], ◌∷◌, ◌++◌, Option, Some, None}
use Rattle.std.specs.List.{fold}
use Rattle.std.specs.Option.{option_to_list, unwrap_or}
use Rattle.std.specs.Cmp.Lexicographic.{slice_cmp}
use Rattle.std.specs.Ordering.{nat_cmp, match_ordering}
use Rattle.lexical_core.specs.Decimals.{Number}
use Rattle.data_types.specs.declared.kind.Kind.{Kind}
use Rattle.data_types.specs.declared.kind.Kind.TheVariants as kind
use Rattle.facets.specs.declared.simple.Bound.{Bound}
use Rattle.facets.specs.declared.simple.Simple.{Simple}
use Rattle.repo_objects.specs.declared.objects.CodeDef.{CodeDef}
use Rattle.repo_objects.specs.declared.objects.Object.{Object}
use Rattle.repo_objects.specs.declared.objects.Kinds.{Kinds}
use Rattle.repo_objects.specs.declared.objects.Kinds.TheVariants as kinds
use Rattle.repo_objects.specs.declared.objects.ObjectKind.{ObjectKind}
use Rattle.repo_objects.specs.declared.objects.ObjectKind.TheVariants as object
use Rattle.repo_objects.specs.declared.objects.RawFacets.{RawFacets}
use Rattle.repo_objects.specs.Repository.{DictionaryEntry, Contents}
use Rattle.reference_check.specs.CodeTexts.{text_of_code}
use Rattle.reference_check.specs.Rules.{set_codes}
use Rattle.message_model.specs.FacetRules.{total_of}

-- the base of the texts of a data type: §3.2
abbrev pub kind_of : Kinds → Kind
kind_of kinds.Text = kind.Text
kind_of kinds.CodeSet = kind.Text
kind_of kinds.IdentifierSet = kind.Text
kind_of kinds.Amount = kind.Decimal
kind_of kinds.Rate = kind.Decimal
kind_of kinds.Quantity = kind.Decimal
kind_of kinds.Indicator = kind.Boolean
kind_of kinds.Binary = kind.Binary
kind_of kinds.Date = kind.Date
kind_of kinds.DateTime = kind.DateTime
kind_of kinds.Time = kind.Time
kind_of kinds.Year = kind.Year
kind_of kinds.YearMonth = kind.YearMonth
kind_of kinds.MonthDay = kind.MonthDay
kind_of kinds.Month = kind.Month
kind_of kinds.Day = kind.Day

-- an object that is no data type has no simple type
abbrev pub base_of : ObjectKind → Kind
base_of (object.Simple k) = kind_of k
base_of _ = kind.Envelope

-- the first, or else the second
abbrev pub first_given : {A : Type 0} → Option A → Option A → Option A
first_given None y = y
first_given (Some x) y = Some x

-- the least length, §4.3.2, which `length`, §4.3.1, sets too
abbrev pub least_length : RawFacets → ℕ
least_length f = unwrap_or (first_given f.length f.min_length) 0

-- the greatest length, §4.3.3, which `length` sets too
abbrev pub greatest_length : RawFacets → Option ℕ
greatest_length f = first_given f.length f.max_length

-- the bound of a side, inclusive or strict: §4.3.7 to §4.3.10
abbrev pub bound_of : Option Number → Option Number → Option Bound
bound_of (Some n) strict = Some (record { value = n; strict = false })
bound_of None (Some n) = Some (record { value = n; strict = true })
bound_of None None = None

-- the pattern, of a kind that has patterns: §4.3.4
abbrev pub pattern_of : ObjectKind → Option (List ℕ) → Option (List ℕ)
pattern_of (object.Simple kinds.Amount) p = None
pattern_of (object.Simple kinds.Rate) p = None
pattern_of (object.Simple kinds.Quantity) p = None
pattern_of (object.Simple kinds.Indicator) p = None
pattern_of (object.Simple kinds.Binary) p = None
pattern_of (object.Simple k) p = p
pattern_of _ p = None

-- a text at its place among others in the order of bytes, each once
abbrev pub put_text : List (List ℕ) → List ℕ → List (List ℕ)
put_text [] text = text ∷ []
put_text (other ∷ others) text = match_ordering (slice_cmp nat_cmp text other) (text ∷ (other ∷ others)) (other ∷ others) (other ∷ put_text others text)

-- the texts in the order of their bytes, each once
abbrev pub sorted_texts : List (List ℕ) → List (List ℕ)
sorted_texts texts = fold put_text [] texts

-- the texts of codes of an object, of those that have one
abbrev pub texts_of : List DictionaryEntry → Object → List CodeDef → List (List ℕ)
texts_of es o [] = []
texts_of es o (c ∷ cs) = option_to_list (text_of_code es o c) ++ texts_of es o cs

-- a data type without codes
abbrev pub faceted_type : Object → Simple
faceted_type o = record {
  kind = base_of o.kind;
  min = least_length o.facets;
  max = greatest_length o.facets;
  total = total_of o.facets.total;
  fraction = o.facets.fraction;
  low = bound_of o.facets.min_in o.facets.min_ex;
  high = bound_of o.facets.max_in o.facets.max_ex;
  pattern = pattern_of o.kind o.facets.pattern;
  codes = None;
}

-- a set with these codes, which alone count
abbrev pub type_of_codes : List (List ℕ) → Simple
type_of_codes codes = record {
  kind = kind.Text;
  min = 0;
  max = None;
  total = 18;
  fraction = None;
  low = None;
  high = None;
  pattern = None;
  codes = Some codes;
}

abbrev pub facets_by : List DictionaryEntry → Object → List CodeDef → Simple
facets_by es o [] = faceted_type o
facets_by es o (c ∷ cs) = type_of_codes (sorted_texts (texts_of es o (c ∷ cs)))

-- the simple type of a data type
abbrev pub facets_of : Contents → Object → Simple
facets_of R o = facets_by R.objects o (set_codes o)
