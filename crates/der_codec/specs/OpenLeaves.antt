-- What is held of a leaf that is judged as its octets come: a text without codes, a binary value or an envelope. Private functions alone cite this.
use Rattle.std.specs.Prelude.{◌≡◌, ◌⊎◌, ℕ, ◌+◌, ◌≤◌, List, [], ◌++◌, length, take, Option, Some, None, Result, Ok, Err, encode_utf8_all}
use Rattle.base64.specs.GeneralPurpose.{IsBytes}
use Rattle.lexical_core.specs.Characters.{IsXmlText}
use Rattle.data_types.specs.Leaf.{Bytes}
use Rattle.data_types.specs.declared.kind.Kind.TheVariants as kind
use Rattle.facets.specs.LeafVerdicts.{HasVerdictTaken, IsFreeText}
use Rattle.facets.specs.declared.leaf_verdict.LeafVerdict.{LeafVerdict}
use Rattle.facets.specs.declared.simple.Simple.{Simple}
use Rattle.inst_pool.specs.Pieces.{Region}
use Rattle.reference_check.specs.Forms as graph
use Rattle.respell.specs.FragmentChecks.{HasTakenBytes, fragment_held}
use Rattle.der_model.specs.DerMessage.{DerMessage}
use Rattle.der_model.specs.Faults.{BreaksIn}
use Rattle.der_model.specs.LeafContents.{ContentsUnder}
use Rattle.der_model.specs.Structures.{Structure}
use Rattle.der_codec.specs.Judging.{HoldsLeaf}
use Rattle.der_codec.specs.KeptOctets.{IsKeptAt}
use Rattle.der_codec.specs.declared.checks.Refusal.{Refusal}
use Rattle.der_codec.specs.declared.checks.Refusal.TheVariants as refusal
use Rattle.der_codec.specs.declared.held.Held.{Held}
use Rattle.der_codec.specs.declared.open_leaf.OpenLeaf.{OpenLeaf}
use Rattle.der_codec.specs.declared.open_leaf.OpenLeaf.TheVariants as opens
use Rattle.der_codec.specs.declared.level.Spot.{Spot}
use Rattle.der_codec.specs.declared.level.Spot.TheVariants as spots

-- a leaf of this simple type is judged as its octets come, where it is not wanted itself: a text without codes, or a binary value
abbrev pub IsOpenType : Simple → Type 0
IsOpenType simple = IsFreeText simple ⊎ (simple.kind ≡ kind.Binary)

-- so is a value of a type of this form: a leaf of such a simple type, or an envelope
abbrev pub IsOpenForm : graph.Form ℕ Simple → Type 0
IsOpenForm (graph.Simple simple) = IsOpenType simple
IsOpenForm graph.Envelope = Unit {0}
IsOpenForm f = ⊥

-- and the value at the spot
abbrev pub IsOpenSpot : DerMessage ℕ → Spot → Type 0
IsOpenSpot m (spots.Value n) = IsOpenForm (m.forms n)
IsOpenSpot m spot = ⊥

-- The check was given the characters of octets, but for the rest, which is too short to be a character.
pub record IsOpenText (check : LeafVerdict) (simple : Simple) (rest octets : List ℕ) : Type 0 where
  pub chars : List ℕ
  pub taken : HasVerdictTaken check simple chars
  pub octets_are : octets ≡ encode_utf8_all chars ++ rest
  pub few : length rest ≤ 3
  pub cut : (n : ℕ) → n ≤ length rest → IsXmlText (take n rest) → n ≡ 0

-- no text comes of the octets, whatever follows them
abbrev pub BeginsNoText : List ℕ → Type 0
BeginsNoText octets = (more : List ℕ) → IsXmlText (octets ++ more) → ⊥

-- the same where that is told
abbrev pub BeginsNoTextAs : List ℕ → Refusal → Type 0
BeginsNoTextAs octets (refusal.Breaks rule) = BeginsNoText octets
BeginsNoTextAs octets refusal.Memory = Unit {0}

-- the leaf is open under the simple type, of which these octets have come, and the rest of them is held
abbrev pub IsOpenLeaf : Simple → OpenLeaf → List ℕ → List ℕ → Type 0
IsOpenLeaf simple (opens.Text check) rest octets = IsFreeText simple × IsOpenText check.value simple rest octets
IsOpenLeaf simple opens.NoText rest octets = IsFreeText simple × (rest ≡ []) × BeginsNoText octets
IsOpenLeaf simple opens.Binary rest octets = (simple.kind ≡ kind.Binary) × (rest ≡ []) × IsBytes octets
IsOpenLeaf simple (opens.Envelope check) rest octets = ⊥

-- an envelope is open, whose check was given these octets
abbrev pub IsOpenEnvelope : OpenLeaf → List ℕ → Type 0
IsOpenEnvelope (opens.Envelope check) octets = HasTakenBytes check.value.check octets
IsOpenEnvelope leaf octets = ⊥

-- the leaf is open in a value of a type of this form; of an envelope no octets are held beside its check
abbrev pub IsOpenUnder : graph.Form ℕ Simple → OpenLeaf → List ℕ → List ℕ → Type 0
IsOpenUnder (graph.Simple simple) leaf rest octets = IsOpenLeaf simple leaf rest octets
IsOpenUnder graph.Envelope leaf rest octets = (rest ≡ []) × IsOpenEnvelope leaf octets
IsOpenUnder f leaf rest octets = ⊥

-- the same of the value at the spot
abbrev pub IsOpenAt : DerMessage ℕ → Spot → OpenLeaf → List ℕ → List ℕ → Type 0
IsOpenAt m (spots.Value n) leaf rest octets = IsOpenUnder (m.forms n) leaf rest octets
IsOpenAt m spot leaf rest octets = ⊥

-- what is begun in a value of a type of this form: a leaf of which nothing has come, where it is judged as its octets come
abbrev pub IsBegunUnder : graph.Form ℕ Simple → Option OpenLeaf → Type 0
IsBegunUnder f None = IsOpenForm f → ⊥
IsBegunUnder f (Some leaf) = IsOpenUnder f leaf [] []

-- the same of the value at the spot
abbrev pub IsBegunAt : DerMessage ℕ → Spot → Option OpenLeaf → Type 0
IsBegunAt m spot None = IsOpenSpot m spot → ⊥
IsBegunAt m spot (Some leaf) = IsOpenAt m spot leaf [] []

-- what is held of contents octets at the spot: some that stand for them, or those that an open leaf has not taken; where no pieces are kept a leaf that
-- is judged as its octets come is open, and where some are none is
abbrev pub HoldsAt : DerMessage ℕ → Spot → Option Region → Option OpenLeaf → List ℕ → List ℕ → Type 0
HoldsAt m spot pieces None kept octets = IsKeptAt m spot kept octets × (pieces ≡ None → IsOpenSpot m spot → octets ≡ [])
HoldsAt m spot pieces (Some leaf) kept octets = IsOpenAt m spot leaf kept octets × (pieces ≡ None)

-- the same where no pieces are kept, behind the first of the octets
abbrev pub HoldsAlone : DerMessage ℕ → Spot → Option OpenLeaf → List ℕ → List ℕ → Type 0
HoldsAlone m spot None kept octets = IsKeptAt m spot kept octets × (IsOpenSpot m spot → ⊥)
HoldsAlone m spot (Some leaf) kept octets = IsOpenAt m spot leaf kept octets

-- nothing is held
abbrev pub HoldsNothing : Held → Type 0
HoldsNothing held = (held.octets.items ≡ []) × (held.leaf ≡ None)

-- what is told of octets whose leaf they are themselves: that it fits, or the rule that they break
abbrev pub IsToldUnder : {T : Type 0} → Simple → List ℕ → Result T Refusal → Type 0
IsToldUnder simple octets (Ok x) = ContentsUnder simple octets (Ok (Bytes octets))
IsToldUnder simple octets (Err (refusal.Breaks rule)) = ContentsUnder simple octets (Err rule)
IsToldUnder simple octets (Err refusal.Memory) = Unit {0}

-- the same in a value of this structure
abbrev pub IsToldIn : {T P : Type 0} → DerMessage P → Structure P → List ℕ → Result T Refusal → Type 0
IsToldIn m s octets (Ok x) = HoldsLeaf m s octets (Bytes octets)
IsToldIn m s octets (Err (refusal.Breaks rule)) = BreaksIn m s octets rule
IsToldIn m s octets (Err refusal.Memory) = Unit {0}

-- how many bytes the check of an open envelope holds
abbrev pub held_by_envelope : Option OpenLeaf → ℕ
held_by_envelope (Some (opens.Envelope check)) = fragment_held check.value.check
held_by_envelope opened = 0

-- how many bytes are held: octets, and what the check of an open envelope holds
abbrev pub held_with_check : Held → ℕ
held_with_check held = length held.octets.items + held_by_envelope held.leaf

-- So much is held of an envelope of which these octets have come: what its check holds, which was given them, or nothing of none.
abbrev pub IsHeldByCheck : Option OpenLeaf → List ℕ → ℕ → Type 0
IsHeldByCheck (Some (opens.Envelope check)) octets held = HasTakenBytes check.value.check octets × (held ≡ fragment_held check.value.check)
IsHeldByCheck opened octets held = (octets ≡ []) × (held ≡ 0)
