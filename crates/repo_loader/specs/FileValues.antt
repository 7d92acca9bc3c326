-- What the attributes of a repository file say (profile): kinds, numbers, texts.
use Rattle.std.specs.Prelude.{ℕ, ◌/◌, ◌%◌, Bool, ◌==◌, ◌&&◌, ◌||◌, nat_le, true, false, IsTrue, List, [], ◌∷◌, length, codes, Option, Some, None, if◌then◌else◌, zero, suc}
use Rattle.std.specs.Option.{option_map}
use Rattle.std.specs.Str.{bytes_eq, all_ascii_digits}
use Rattle.std.specs.Str.Parse.{digits_value}
use Rattle.std.specs.Char.{is_ascii_digit}
use Rattle.lexical_core.specs.Tree.{Entry as Attribute}
use Rattle.lexical_core.specs.Decimals.{Number, IsDecimal, IsDecimalText, signed_number}
use Rattle.lexical_core.specs.Names.{attribute_value}
use Rattle.repo_objects.specs.declared.objects.ObjectKind.{ObjectKind}
use Rattle.repo_objects.specs.declared.objects.ObjectKind.TheVariants.{Simple, Component, Choice, External, Other}
use Rattle.repo_objects.specs.declared.objects.Kinds.TheVariants as kinds
use Rattle.repo_loader.specs.FileNames.{own, type_name}

-- ---- texts

-- the text of an attribute, empty where it is absent
abbrev pub text_or_empty : Option (List ℕ) → List ℕ
text_or_empty None = []
text_or_empty (Some text) = text

-- an empty text counts as absent
abbrev pub some_text : Option (List ℕ) → Option (List ℕ)
some_text None = None
some_text (Some []) = None
some_text (Some (c ∷ cs)) = Some (c ∷ cs)

-- the attribute's text
abbrev pub text_of_attribute : List ℕ → List Attribute → List ℕ
text_of_attribute local attributes = text_or_empty (attribute_value (own local) attributes)

-- the attribute's text, where it is there and not empty
abbrev pub reference : List ℕ → List Attribute → Option (List ℕ)
reference local attributes = some_text (attribute_value (own local) attributes)

-- ---- kinds

-- what stands behind the first colon, and the whole where there is none
abbrev pub behind_colon : List ℕ → List ℕ → List ℕ
behind_colon whole [] = whole
behind_colon whole (c ∷ cs) = if c == 58 then cs else behind_colon whole cs

-- the word for the kind of an entry: of `xsi:type` what stands behind a colon
abbrev pub word_of : List Attribute → List ℕ
word_of attributes = let t = text_or_empty (attribute_value type_name attributes) in behind_colon t t

-- the words of the kinds
abbrev pub component_words : List (List ℕ × ObjectKind)
component_words = (codes "MessageComponent", Component) ∷ (codes "ChoiceComponent", Choice) ∷ (codes "ExternalSchema", External) ∷ []

-- those of dates and times, and behind
abbrev pub date_words : List (List ℕ × ObjectKind)
date_words =
    (codes "Date", Simple kinds.Date) ∷ (codes "DateTime", Simple kinds.DateTime) ∷ (codes "Time", Simple kinds.Time)
    ∷ (codes "Year", Simple kinds.Year) ∷ (codes "YearMonth", Simple kinds.YearMonth) ∷ (codes "MonthDay", Simple kinds.MonthDay)
    ∷ (codes "Month", Simple kinds.Month) ∷ (codes "Day", Simple kinds.Day) ∷ component_words

-- the words of all kinds
abbrev pub kind_words : List (List ℕ × ObjectKind)
kind_words =
    (codes "Text", Simple kinds.Text) ∷ (codes "CodeSet", Simple kinds.CodeSet) ∷ (codes "IdentifierSet", Simple kinds.IdentifierSet)
    ∷ (codes "Amount", Simple kinds.Amount) ∷ (codes "Rate", Simple kinds.Rate) ∷ (codes "Quantity", Simple kinds.Quantity)
    ∷ (codes "Indicator", Simple kinds.Indicator) ∷ (codes "Binary", Simple kinds.Binary) ∷ date_words

-- the kind of that word in the table
abbrev pub kind_in : List (List ℕ × ObjectKind) → List ℕ → ObjectKind
kind_in [] word = Other
kind_in (row ∷ rows) word = if bytes_eq word row.0 then row.1 else kind_in rows word

-- the kind of an entry
abbrev pub object_kind_of : List Attribute → ObjectKind
object_kind_of attributes = kind_in kind_words (word_of attributes)

-- the kinds that have lengths
abbrev pub has_lengths : ObjectKind → Bool
has_lengths (Simple kinds.Text) = true
has_lengths (Simple kinds.CodeSet) = true
has_lengths (Simple kinds.IdentifierSet) = true
has_lengths (Simple kinds.Binary) = true
has_lengths _ = false

-- the kinds that have digits and bounds
abbrev pub has_digits : ObjectKind → Bool
has_digits (Simple kinds.Amount) = true
has_digits (Simple kinds.Rate) = true
has_digits (Simple kinds.Quantity) = true
has_digits _ = false

-- ---- numbers

-- 1 to 10 digits, whose number is at most 4,294,967,295
abbrev pub is_count : List ℕ → Bool
is_count t = nat_le 1 (length t) && nat_le (length t) 10 && all_ascii_digits t && nat_le (digits_value 10 t) 4294967295

-- the digits of a text
abbrev pub digits_in : List ℕ → List ℕ
digits_in [] = []
digits_in (c ∷ cs) = if is_ascii_digit c then c ∷ digits_in cs else digits_in cs

-- how many characters stand behind the point
abbrev pub fraction_count : List ℕ → ℕ
fraction_count [] = 0
fraction_count (c ∷ cs) = if c == 46 then length cs else fraction_count cs

-- the text begins with a minus sign
abbrev pub is_minus : List ℕ → Bool
is_minus [] = false
is_minus (c ∷ cs) = c == 45

-- the number of this sign whose size is `size` times ten to the minus scale, with the least scale
abbrev pub least : Bool → ℕ → ℕ → Number
least negative size zero = record { whole = signed_number negative size; scale = 0 }
least negative size (suc scale) = if size % 10 == 0 then least negative (size / 10) scale else record { whole = signed_number negative size; scale = suc scale }

-- the number that a decimal text spells
abbrev pub number_from_text : List ℕ → Number
number_from_text t = least (is_minus t) (digits_value 10 (digits_in t)) (fraction_count t)

-- a decimal text of at most 18 digits
abbrev pub IsBound : List ℕ → Type 0
IsBound t = IsDecimalText t × IsDecimal (number_from_text t)

-- a facet that the kind has, where it is given
abbrev pub facet : Bool → List ℕ → List Attribute → Option (List ℕ)
facet has local attributes = if has then attribute_value (own local) attributes else None

-- the numbers of facets
abbrev pub count : Bool → List ℕ → List Attribute → Option ℕ
count has local attributes = option_map (digits_value 10) (facet has local attributes)

abbrev pub bound : Bool → List ℕ → List Attribute → Option Number
bound has local attributes = option_map number_from_text (facet has local attributes)

-- `minOccurs`, where absent this number
abbrev pub least_of : ℕ → Option (List ℕ) → ℕ
least_of absent None = absent
least_of absent (Some t) = digits_value 10 t

-- `-1`, `*` and `unbounded`: no greatest number
abbrev pub is_endless : List ℕ → Bool
is_endless t = bytes_eq t (codes "-1") || bytes_eq t (codes "*") || bytes_eq t (codes "unbounded")

-- `maxOccurs`
abbrev pub greatest_of : Option (List ℕ) → Option ℕ
greatest_of None = None
greatest_of (Some t) = if is_endless t then None else Some (digits_value 10 t)

-- ---- which texts are numbers

-- a number that may be absent
abbrev pub IsCountIfAny : Option (List ℕ) → Type 0
IsCountIfAny None = Unit {0}
IsCountIfAny (Some t) = IsTrue (is_count t)

abbrev pub IsBoundIfAny : Option (List ℕ) → Type 0
IsBoundIfAny None = Unit {0}
IsBoundIfAny (Some t) = IsBound t

abbrev pub IsGreatestIfAny : Option (List ℕ) → Type 0
IsGreatestIfAny None = Unit {0}
IsGreatestIfAny (Some t) = IsTrue (is_endless t || is_count t)
