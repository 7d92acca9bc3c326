-- What octets that are kept of contents stand for. Private functions alone cite this.
use Rattle.std.specs.Prelude.{◌≡◌, ◌⊎◌, ℕ, ◌<◌, ◌≤◌, List, ◌++◌, length, Some, None, Result}
use Rattle.lexical_core.specs.Characters.{IsXmlText}
use Rattle.lexical_core.specs.XmlRuns.{IsXmlRun}
use Rattle.lexical_core.specs.declared.rule.Rule.{Rule}
use Rattle.data_types.specs.Leaf.{Leaf}
use Rattle.data_types.specs.declared.kind.Kind.{Kind}
use Rattle.data_types.specs.declared.kind.Kind.TheVariants as kind
use Rattle.facets.specs.LeafChecks.{IsHeldWithin, IsWithinLimits, leaf_limit}
use Rattle.facets.specs.LeafUnder.{HasSortedCodes}
use Rattle.facets.specs.declared.simple.Simple.{Simple}
use Rattle.der_model.specs.DerMessage.{DerMessage}
use Rattle.der_model.specs.Faults.{IsHeldIn, BreaksIn}
use Rattle.der_model.specs.LeafContents.{ContentsUnder}
use Rattle.der_model.specs.Structures as structures
use Rattle.der_model.specs.Structures.{Structure, Holds, LeafOf, structure}
use Rattle.der_codec.specs.Judging.{HoldsLeaf}
use Rattle.der_codec.specs.Levels.{IsSpot}
use Rattle.der_codec.specs.declared.level.Spot.{Spot}
use Rattle.der_codec.specs.Limits.{contents_limit}

-- Octets that are kept of contents under a simple type: whatever comes behind both, what the ones are the others are, too.
pub record IsKeptUnder (simple : Simple) (kept octets : List ℕ) : Type 0 where
  pub stands : (more : List ℕ) (result : Result Leaf Rule) → ContentsUnder simple (kept ++ more) result → ContentsUnder simple (octets ++ more) result
  pub few : length kept ≤ length octets
  pub within : IsHeldWithin (leaf_limit simple) (length octets) (length kept)

-- The same in a value of this structure.
pub record IsKeptIn {P : Type 0} (m : DerMessage P) (s : Structure P) (kept octets : List ℕ) : Type 0 where
  pub held : (more : List ℕ) → IsHeldIn m s (kept ++ more) → IsHeldIn m s (octets ++ more)
  pub leaf : (more : List ℕ) (leaf : Leaf) → HoldsLeaf m s (kept ++ more) leaf → HoldsLeaf m s (octets ++ more) leaf
  pub broken : (more : List ℕ) (rule : Rule) → BreaksIn m s (kept ++ more) rule → BreaksIn m s (octets ++ more) rule
  pub within : IsHeldWithin (contents_limit s) (length octets) (length kept)

-- The same in the value at the spot.
pub record IsKeptAt (m : DerMessage ℕ) (spot : Spot) (kept octets : List ℕ) : Type 0 where
  pub few : length kept ≤ length octets
  pub stands : (of : structures.Spot ℕ) → IsSpot m.forms spot of → IsKeptIn m (structure m of) kept octets

-- the kinds of which all contents are short, or that have none
abbrev pub IsShortForm : Kind → Type 0
IsShortForm kind.Decimal = Unit {0}
IsShortForm kind.Boolean = Unit {0}
IsShortForm kind.Envelope = Unit {0}
IsShortForm k = ⊥

-- The value at the spot is a leaf of this simple type.
pub record IsLeafAt (m : DerMessage ℕ) (spot : Spot) (simple : Simple) : Type 0 where
  pub leaf : (of : structures.Spot ℕ) → IsSpot m.forms spot of → structure m of ≡ Holds (LeafOf simple)
  pub limits : IsWithinLimits simple
  pub sorted : HasSortedCodes simple

-- no limit is on the octets at the spot
abbrev pub HasNoLimit : DerMessage ℕ → Spot → Type 0
HasNoLimit m spot = (of : structures.Spot ℕ) → IsSpot m.forms spot of → contents_limit (structure m of) ≡ None

-- Octets that are kept of others: whatever comes behind both, the one is a text where the other is, and has more characters than so many.
pub record IsPassed (most : ℕ) (kept octets : List ℕ) : Type 0 where
  pub there : (more : List ℕ) → IsXmlText (kept ++ more) → IsXmlText (octets ++ more)
  pub back : (more : List ℕ) → IsXmlText (octets ++ more) → IsXmlText (kept ++ more)
  pub kept_long : (more : List ℕ) (count : ℕ) → IsXmlRun (kept ++ more) count → most < count
  pub octets_long : (more : List ℕ) (count : ℕ) → IsXmlRun (octets ++ more) count → most < count

-- What is kept of octets that may be a text: all of them, or some that stand for them where a text has more characters than so many.
pub record IsTextKept (most : ℕ) (kept octets : List ℕ) : Type 0 where
  pub few : length kept ≤ length octets
  pub within : IsHeldWithin (Some most) (length octets) (length kept)
  pub text : (kept ≡ octets) ⊎ IsPassed most kept octets
