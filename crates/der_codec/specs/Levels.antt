-- What the open values that a reader keeps are to the definitions.
use Rattle.std.specs.Prelude.{◌≡◌, ℕ, List, [], ◌∷◌, ◌++◌, Option, Some, None, slice_get, length}
use Rattle.facets.specs.declared.simple.Simple.{Simple}
use Rattle.reference_check.specs.Forms as graph
use Rattle.reference_check.specs.Forms.{Graph, form_slots}
use Rattle.der_model.specs.Structures as structures
use Rattle.der_model.specs.States as states
use Rattle.der_model.specs.States.{next_number}
use Rattle.der_codec.specs.declared.level.Spot.{Spot}
use Rattle.der_codec.specs.declared.level.Spot.TheVariants as spot
use Rattle.der_codec.specs.declared.level.Level.{Level}

-- the spot is that of the definitions
abbrev pub IsSpot : Graph ℕ Simple → Spot → structures.Spot ℕ → Type 0
IsSpot types spot.Instance of = of ≡ structures.Instance
IsSpot types (spot.Value p) of = of ≡ structures.Value p
IsSpot types (spot.List p k) of = (s : graph.Slot ℕ) × (slice_get (form_slots (types p)) k ≡ Some s) × (of ≡ structures.ListOf p k s)
IsSpot types (spot.Number p) of = of ≡ structures.NumberOf p

-- the level stands for an open value
pub record IsLevel (types : Graph ℕ Simple) (x : Level) (l : states.DerLevel ℕ) : Type 0 where
  pub spot : IsSpot types x.spot l.spot
  pub next : x.next ≡ next_number l.came
  pub count : x.count ≡ length l.came
  pub end : x.end ≡ l.end

-- levels from the innermost one on
abbrev pub AreLevels : Graph ℕ Simple → List Level → List (states.DerLevel ℕ) → Type 0
AreLevels types [] [] = Unit {0}
AreLevels types (x ∷ xs) (l ∷ ls) = IsLevel types x l × AreLevels types xs ls
AreLevels types _ _ = ⊥

-- the innermost first
abbrev pub inwards : List Level → List Level
inwards [] = []
inwards (x ∷ xs) = inwards xs ++ x ∷ []

abbrev pub first_of : List Level → Option Level
first_of [] = None
first_of (x ∷ xs) = Some x

abbrev pub rest_of : List Level → List Level
rest_of [] = []
rest_of (x ∷ xs) = xs
