-- How many octets are held of contents and headers that come in pieces.
use Rattle.std.specs.Prelude.{◌≡◌, ℕ, List, length, Option, None}
use Rattle.data_types.specs.declared.kind.Kind.TheVariants as kind
use Rattle.facets.specs.LeafChecks.{leaf_limit}
use Rattle.facets.specs.LeafVerdicts.{IsFreeText}
use Rattle.facets.specs.declared.simple.Simple.{Simple}
use Rattle.reference_check.specs.Forms as graph
use Rattle.der_model.specs.DerMessage.{DerMessage}
use Rattle.der_model.specs.Structures as structures
use Rattle.der_model.specs.Structures.{Structure, Holds, LeafOf, structure}
use Rattle.der_model.specs.States.{State, AwaitsContents}

-- the limit on the contents octets that are held in a value of this structure: of a leaf that of its simple type, of a fragment none
abbrev pub contents_limit : {P : Type 0} → Structure P → Option ℕ
contents_limit (Holds (LeafOf simple)) = leaf_limit simple
contents_limit s = None

-- the limit on those of the leaf that is open
abbrev pub open_limit : {P : Type 0} → DerMessage P → State P → Option ℕ
open_limit m (AwaitsContents spot names count around) = contents_limit (structure m spot)
open_limit m s = None

-- a type of texts without codes
abbrev pub IsFreeForm : {P : Type 0} → graph.Form P Simple → Type 0
IsFreeForm (graph.Simple simple) = IsFreeText simple
IsFreeForm f = ⊥

-- a type of binary values
abbrev pub IsBinaryForm : {P : Type 0} → graph.Form P Simple → Type 0
IsBinaryForm (graph.Simple simple) = simple.kind ≡ kind.Binary
IsBinaryForm f = ⊥

-- a type of envelopes
abbrev pub IsEnvelopeForm : {P : Type 0} → graph.Form P Simple → Type 0
IsEnvelopeForm graph.Envelope = Unit {0}
IsEnvelopeForm f = ⊥

-- the leaf that is open is a value of a type of such a form
abbrev pub OpensForm : {P : Type 0} → (graph.Form P Simple → Type 0) → DerMessage P → State P → Type 0
OpensForm F m (AwaitsContents (structures.Value p) names count around) = F (m.forms p)
OpensForm F m s = ⊥

-- it is a text without codes
abbrev pub OpensFreeText : {P : Type 0} → DerMessage P → State P → Type 0
OpensFreeText m s = OpensForm IsFreeForm m s

-- it is a binary value
abbrev pub OpensBinary : {P : Type 0} → DerMessage P → State P → Type 0
OpensBinary m s = OpensForm IsBinaryForm m s

-- it is an envelope
abbrev pub OpensEnvelope : {P : Type 0} → DerMessage P → State P → Type 0
OpensEnvelope m s = OpensForm IsEnvelopeForm m s

-- of the octets of the part that has begun those that are contents
abbrev pub leaf_come : {P : Type 0} → State P → List ℕ → ℕ
leaf_come (AwaitsContents spot names count around) rest = length rest
leaf_come s rest = 0

-- those that are identifier or length octets
abbrev pub token_come : {P : Type 0} → State P → List ℕ → ℕ
token_come (AwaitsContents spot names count around) rest = 0
token_come s rest = length rest
