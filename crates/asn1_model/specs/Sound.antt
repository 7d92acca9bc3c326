-- What the laws of a module ask of the compiled types that it was made of.
use Rattle.std.specs.Prelude.{◌≡◌, ◌⊎◌, true, [], ◌∷◌, ℕ, ◌<◌, ◌^◌, List, Some, slice_get, length, codes}
use Rattle.std.specs.Str.{chars}
use Rattle.lexical_core.specs.Characters.{IsXmlText}
use Rattle.pattern_match.specs.Building.{position_limit}
use Rattle.pattern_match.specs.Reading.{HasPositionsWithin}
use Rattle.data_types.specs.declared.kind.Kind.TheVariants as kind
use Rattle.facets.specs.declared.simple.Simple.{Simple}
use Rattle.reference_check.specs.Forms.{Graph, Form, Slot}
use Rattle.reference_check.specs.Forms as form
use Rattle.reference_check.specs.Words.{UpTo}
use Rattle.message_model.specs.Tables.{Tables, TypeEntry, types_of}
use Rattle.asn1_model.specs.Names.{is_in_name}

-- codes are texts of XML characters, and so many that they can be numbered; a pattern is one, and not too large
pub record IsSoundSimpleType (s : Simple) : Type 0 where
  pub texts : (codes : List (List ℕ)) → s.codes ≡ Some codes → (k : ℕ) (text : List ℕ) → slice_get codes k ≡ Some text → IsXmlText text
  pub few : (codes : List (List ℕ)) → s.codes ≡ Some codes → length codes < 2 ^ 64
  pub pattern : (p : List ℕ) → s.pattern ≡ Some p → HasPositionsWithin (chars p) position_limit

-- a name begins with an ASCII letter, a digit or `_`
abbrev pub BeginsName : List ℕ → Type 0
BeginsName [] = ⊥
BeginsName (c ∷ cs) = (is_in_name c ≡ true) ⊎ (c ≡ 95)

-- A slot or an amount refers to a type that may be referred to; a minimum is not above its maximum; an alternative comes at least once; the code
-- of an amount is of a simple type, and its number is a decimal.
abbrev pub IsSoundType : {P : Type 0} → (P → Type 0) → Graph P Simple → Form P Simple → Type 0
IsSoundType May types (form.Simple s) = IsSoundSimpleType s
IsSoundType May types (form.Money c s) = May c × (s.kind ≡ kind.Decimal) × (x : Simple) × (types c ≡ form.Simple x) × IsSoundSimpleType x
IsSoundType {P} May types (form.Sequence fs) = (k : ℕ) (s : Slot P) → slice_get fs k ≡ Some s → May s.target × UpTo s.min s.max
IsSoundType {P} May types (form.Choice fs) = (k : ℕ) (s : Slot P) → slice_get fs k ≡ Some s → May s.target × UpTo s.min s.max × (0 < s.min)
IsSoundType May types f = Unit {0}

-- no type refers to `Document`
abbrev pub MayBeReferredTo : ℕ → Type 0
MayBeReferredTo p = 0 < p

abbrev pub AllBegin : List TypeEntry → Type 0
AllBegin [] = Unit {0}
AllBegin (t ∷ ts) = BeginsName t.name × AllBegin ts

-- the names of types begin as names do, and the first of them is `Document`
pub record IsSoundAsn (T : Tables) : Type 0 where
  pub forms : (p : ℕ) → IsSoundType MayBeReferredTo (types_of T) (types_of T p)
  pub few : length T.types < 2 ^ 64
  pub root : (fs : List (Slot ℕ)) × (types_of T 0 ≡ form.Sequence fs)
  pub document : (first : TypeEntry) × (others : List TypeEntry) × (T.types ≡ first ∷ others) × (first.name ≡ codes "Document") × AllBegin others
