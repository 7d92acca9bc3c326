-- The checks of leaves that are kept, each for the type of its number.
use Rattle.std.specs.Prelude.{◌≡◌, ℕ, Option, Some, None, Result, Ok, Err, slice_get, List}
use Rattle.std.specs.Global.{Box}
use Rattle.data_types.specs.Leaf.{Leaf}
use Rattle.facets.specs.declared.simple.Simple.{Simple}
use Rattle.facets.specs.declared.leaf_verdict.LeafVerdict.{LeafVerdict}
use Rattle.facets.specs.LeafUnder.{GivesLeaf}
use Rattle.facets.specs.LeafVerdicts.{IsVerdictMadeFor}
use Rattle.facets.specs.Rules.{BreaksFirst}
use Rattle.reference_check.specs.Forms.{Graph, text_type}
use Rattle.der_codec.specs.declared.checks.Refusal.{Refusal}
use Rattle.der_codec.specs.declared.checks.Refusal.TheVariants as refusal
use Rattle.der_codec.specs.declared.checks.Checks.{Checks}

-- the check was made for the texts of the type of this number
abbrev pub ChecksType : Graph ℕ Simple → ℕ → LeafVerdict → Type 0
ChecksType types n check = (simple : Simple) → text_type (types n) ≡ Some simple → IsVerdictMadeFor check simple

-- the same of one that may be there
abbrev pub ChecksIfAny : Graph ℕ Simple → ℕ → Option (Box LeafVerdict) → Type 0
ChecksIfAny types n None = Unit {0}
ChecksIfAny types n (Some check) = ChecksType types n check.value

-- each check was made for the type of its number
abbrev pub CheckTypes : Graph ℕ Simple → Checks → Type 0
CheckTypes types checks = (n : ℕ) (check : Box LeafVerdict) → slice_get checks.entries.items n ≡ Some (Some check) → ChecksType types n check.value

-- what is told of characters under a simple type: that they spell a leaf, or the first rule that they break
abbrev pub IsToldOf : {T : Type 0} → Simple → List ℕ → Result T Refusal → Type 0
IsToldOf simple text (Ok x) = (leaf : Leaf) × GivesLeaf simple text leaf
IsToldOf simple text (Err (refusal.Breaks rule)) = BreaksFirst simple text rule
IsToldOf simple text (Err refusal.Memory) = Unit {0}
