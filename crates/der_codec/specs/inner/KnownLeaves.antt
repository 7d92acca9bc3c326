-- What is known of contents octets at a look.
use Rattle.std.specs.Prelude.{ℕ, List, Ok}
use Rattle.data_types.specs.Leaf.{Bytes, Code}
use Rattle.facets.specs.declared.simple.Simple.{Simple}
use Rattle.der_model.specs.DerMessage.{DerMessage}
use Rattle.der_model.specs.LeafContents.{ContentsUnder}
use Rattle.der_model.specs.Structures as structures
use Rattle.der_model.specs.Structures.{Structure, structure}
use Rattle.der_codec.specs.Levels.{IsSpot}
use Rattle.der_codec.specs.Judging.{HoldsLeaf}
use Rattle.der_codec.specs.declared.known.Known.{Known}
use Rattle.der_codec.specs.declared.known.Known.TheVariants as known
use Rattle.der_codec.specs.declared.level.Spot.{Spot}

-- under a simple type: the leaf that they are
abbrev pub IsKnownUnder : Simple → List ℕ → Known → Type 0
IsKnownUnder simple octets known.Octets = ContentsUnder simple octets (Ok (Bytes octets))
IsKnownUnder simple octets (known.Code place) = ContentsUnder simple octets (Ok (Code place))
IsKnownUnder simple octets known.Nothing = Unit {0}

-- in a value of this structure
abbrev pub IsKnownAt : DerMessage ℕ → Structure ℕ → List ℕ → Known → Type 0
IsKnownAt m s octets known.Octets = HoldsLeaf m s octets (Bytes octets)
IsKnownAt m s octets (known.Code place) = HoldsLeaf m s octets (Code place)
IsKnownAt m s octets known.Nothing = Unit {0}

-- at the spot
abbrev pub IsKnownFor : DerMessage ℕ → Spot → List ℕ → Known → Type 0
IsKnownFor m spot octets told = (of : structures.Spot ℕ) → IsSpot m.forms spot of → IsKnownAt m (structure m of) octets told
