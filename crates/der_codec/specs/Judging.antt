-- What is told of contents octets.
use Rattle.std.specs.Prelude.{◌≡◌, ℕ, List, Some, Result, Ok, Err, slice_get, encode_utf8_all}
use Rattle.std.specs.List.{AllByRecursion}
use Rattle.lexical_core.specs.Characters.{IsXmlChar, IsXmlText}
use Rattle.lexical_core.specs.Tree.{Tree}
use Rattle.lexical_core.specs.declared.rule.Rule.{Rule}
use Rattle.lexical_core.specs.declared.rule.Rule.TheVariants.{BadText, BadContents}
use Rattle.data_types.specs.Leaf.{Leaf, Bytes}
use Rattle.data_types.specs.LeafAnswers.{leaf_of}
use Rattle.data_types.specs.declared.leaf.LeafRef.{LeafRef}
use Rattle.facets.specs.declared.simple.Simple.{Simple}
use Rattle.fragments.specs.Plain.{IsPlain}
use Rattle.der_model.specs.DerMessage.{DerMessage}
use Rattle.der_model.specs.Faults.{IsHeldIn, BreaksIn}
use Rattle.der_model.specs.LeafContents.{ContentsUnder}
use Rattle.der_model.specs.Structures as structures
use Rattle.der_model.specs.Structures.{Structure, Holds, LeafOf, Fragment, structure}
use Rattle.der_codec.specs.Levels.{IsSpot}
use Rattle.der_codec.specs.declared.level.Spot.{Spot}
use Rattle.der_codec.specs.declared.checks.Refusal.{Refusal}
use Rattle.der_codec.specs.declared.checks.Refusal.TheVariants as refusal

-- the leaf that contents octets are under a simple type, or the rule that they break
abbrev pub IsJudged : Simple → List ℕ → Result LeafRef Refusal → Type 0
IsJudged simple octets (Ok leaf) = ContentsUnder simple octets (Ok (leaf_of leaf))
IsJudged simple octets (Err (refusal.Breaks rule)) = ContentsUnder simple octets (Err rule)
IsJudged simple octets (Err refusal.Memory) = Unit {0}

-- the octets are the contents of this leaf, in a value of this structure; the leaf of an envelope is its fragment
abbrev pub HoldsLeaf : {P : Type 0} → DerMessage P → Structure P → List ℕ → Leaf → Type 0
HoldsLeaf m (Holds (LeafOf simple)) octets leaf = ContentsUnder simple octets (Ok leaf)
HoldsLeaf m (Holds Fragment) octets leaf = ((tree : Tree) × IsPlain tree × (octets ≡ m.fragment tree)) × (leaf ≡ Bytes octets)
HoldsLeaf m _ octets leaf = ⊥

-- the octets are contents of the value at the spot
abbrev pub HoldsContents : DerMessage ℕ → Spot → List ℕ → Type 0
HoldsContents m spot octets = (of : structures.Spot ℕ) → IsSpot m.forms spot of → IsHeldIn m (structure m of) octets

-- they break a rule there
abbrev pub BreaksContentsAt : DerMessage ℕ → Spot → List ℕ → Rule → Type 0
BreaksContentsAt m spot octets rule = (of : structures.Spot ℕ) → IsSpot m.forms spot of → BreaksIn m (structure m of) octets rule

-- the leaf that contents octets are in a value of this structure, or the rule that they break
abbrev pub IsJudgedAt : {P : Type 0} → DerMessage P → Structure P → List ℕ → Result LeafRef Refusal → Type 0
IsJudgedAt m s octets (Ok leaf) = HoldsLeaf m s octets (leaf_of leaf)
IsJudgedAt m s octets (Err (refusal.Breaks rule)) = BreaksIn m s octets rule
IsJudgedAt m s octets (Err refusal.Memory) = Unit {0}

-- the rule of octets that are no date: of text BadText, and of what is no text BadContents
abbrev pub IsNoDate : List ℕ → Rule → Type 0
IsNoDate octets BadText = IsXmlText octets
IsNoDate octets BadContents = IsXmlText octets → ⊥
IsNoDate octets rule = ⊥

-- the code of this place is a text of characters of XML
abbrev pub IsXmlCode : List (List ℕ) → ℕ → Type 0
IsXmlCode codes place = (text : List ℕ) × AllByRecursion IsXmlChar text × (slice_get codes place ≡ Some (encode_utf8_all text))

-- the same in the value at the spot
abbrev pub IsJudgedFor : DerMessage ℕ → Spot → List ℕ → Result LeafRef Refusal → Type 0
IsJudgedFor m spot octets result = (of : structures.Spot ℕ) → IsSpot m.forms spot of → IsJudgedAt m (structure m of) octets result

-- that contents octets are some of the value at the spot, or the rule that they break
abbrev pub IsVerdictFor : {T : Type 0} → DerMessage ℕ → Spot → List ℕ → Result T Refusal → Type 0
IsVerdictFor m spot octets (Ok x) = HoldsContents m spot octets
IsVerdictFor m spot octets (Err (refusal.Breaks rule)) = BreaksContentsAt m spot octets rule
IsVerdictFor m spot octets (Err refusal.Memory) = Unit {0}
