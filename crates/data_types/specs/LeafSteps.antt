-- What the reader of a leaf's characters keeps of those that it was given.
use Rattle.std.specs.Prelude.{◌≡◌, ◌≢◌, ℕ, ◌+◌, ◌-◌, ◌^◌, ◌≤◌, List, [], length, Option, encode_utf8_all}
use Rattle.std.specs.List.{AllByRecursion}
use Rattle.lexical_core.specs.Characters.{IsXmlChar}
use Rattle.lexical_core.specs.DecimalSoFar.{HasRead}
use Rattle.data_types.specs.declared.kind.Kind.{Kind}
use Rattle.data_types.specs.declared.kind.Kind.TheVariants as kind
use Rattle.data_types.specs.declared.kept.Kept.{Kept}
use Rattle.data_types.specs.declared.leaf_step.Body.{Body}
use Rattle.data_types.specs.declared.leaf_step.Body.TheVariants.{Text, Collapsed}
use Rattle.data_types.specs.declared.collapsed_step.CollapsedStep.{CollapsedStep}
use Rattle.data_types.specs.declared.collapsed_step.Value.{Value}
use Rattle.data_types.specs.declared.collapsed_step.Value.TheVariants.{Decimal, Short, Octets}
use Rattle.data_types.specs.declared.leaf_step.LeafStep.{LeafStep}
use Rattle.data_types.specs.Binaries.{without_spaces}
use Rattle.data_types.specs.Collapsing.{HasCollapsed}
use Rattle.data_types.specs.KeptBytes.{BytesWithRoom}
use Rattle.data_types.specs.Kept.{Holds, kept_memory}
use Rattle.data_types.specs.OctetSteps.{HasDecoded}
use Rattle.data_types.specs.ShortTexts.{HasKept}

-- a kind whose texts are short: of truth values, dates and times
pub record IsShortKind (k : Kind) : Type 0 where
  pub no_text : k ≢ kind.Text
  pub no_decimal : k ≢ kind.Decimal
  pub no_binary : k ≢ kind.Binary

-- a kind whose white space is collapsed
abbrev pub IsNoText : Kind → Type 0
IsNoText k = k ≢ kind.Text

-- the bytes are those of these characters
abbrev pub IsText : Kept → Option ℕ → List ℕ → Type 0
IsText text most chars = AllByRecursion IsXmlChar chars × Holds text most (length chars) (encode_utf8_all chars)

-- what is kept is that of the characters, which collapse to the others so far; a limit is of account for binary values
abbrev pub HasValue : Kind → Value → Option ℕ → List ℕ → List ℕ → Type 0
HasValue k (Decimal step) most chars collapsed = (k ≡ kind.Decimal) × HasRead step collapsed
HasValue k (Short kept) most chars collapsed = IsShortKind k × HasKept kept collapsed
HasValue k (Octets step) most chars collapsed =
    (k ≡ kind.Binary) × HasDecoded step most (without_spaces collapsed) × (length step.kept.bytes.held + step.count ≤ length chars)

-- the reader was given these characters of the text of a leaf that is no text
abbrev pub HasGiven : CollapsedStep → Kind → Option ℕ → List ℕ → Type 0
HasGiven s k most chars = (collapsed : List ℕ) × HasCollapsed s.collapse chars collapsed × HasValue k s.value most chars collapsed

-- what is kept is that of these characters; a limit is of account for texts and binary values
abbrev pub HasBody : Kind → Body → Option ℕ → List ℕ → Type 0
HasBody k (Text text) most chars = (k ≡ kind.Text) × IsText text most chars
HasBody k (Collapsed step) most chars = HasGiven step k most chars

-- the reader is one for this kind with this limit on the length, and was given these characters since it was made or begun anew
abbrev pub HasTakenLeaf : LeafStep → Kind → Option ℕ → List ℕ → Type 0
HasTakenLeaf s k most chars = (k ≡ s.kind) × HasBody k s.body most chars

-- the bytes that are kept in memory, and the room for them: more than any count of bytes where nothing is kept there
abbrev pub value_memory : Value → BytesWithRoom
value_memory (Decimal step) = record { held = []; room = 2 ^ 64 }
value_memory (Short kept) = record { held = []; room = 2 ^ 64 }
value_memory (Octets step) = kept_memory step.kept

-- how many characters there are of a group that is begun
abbrev pub begun_in : Value → ℕ
begun_in (Octets step) = step.count
begun_in value = 0

-- how many bytes of a text are held in place
abbrev pub value_in_place : Value → ℕ
value_in_place (Decimal step) = 0
value_in_place (Short kept) = kept.count
value_in_place (Octets step) = step.count

abbrev pub body_in_place : Body → ℕ
body_in_place (Text text) = 0
body_in_place (Collapsed step) = value_in_place step.value

abbrev pub memory_of : Body → BytesWithRoom
memory_of (Text text) = kept_memory text
memory_of (Collapsed step) = value_memory step.value

-- how many bytes a reader keeps in memory
abbrev pub kept_by_step : LeafStep → ℕ
kept_by_step s = length (memory_of s.body).held

-- how many bytes it holds in place
abbrev pub in_place : LeafStep → ℕ
in_place s = body_in_place s.body

-- how many it may keep without asking for memory
abbrev pub room : LeafStep → ℕ
room s = (memory_of s.body).room

-- how many more it may keep without asking for memory
abbrev pub spare : LeafStep → ℕ
spare s = room s - kept_by_step s
