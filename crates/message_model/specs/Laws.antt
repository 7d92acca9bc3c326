-- What follows of the definitions for a whole message.
use Rattle.std.specs.Prelude.{◌≡◌, ◌⊎◌, ℕ, List}
use Rattle.repo_objects.specs.Repository.{Contents}
use Rattle.reference_check.specs.Graph.{Place}
use Rattle.message_model.specs.Sound.{AreSound, HaveCodes, HaveSortedCodes, HasRoot}
use Rattle.message_model.specs.Tables.{Tables, types_of}
use Rattle.message_model.specs.Compiled.{Compiles, IsReachedList}
use Rattle.message_model.specs.Ready.{MessageRule, IsReady, IsRefused}

-- A message that breaks no rule has one list of tables.
abbrev pub OneModel : Type 0
OneModel = (R : Contents) (m : List ℕ) (ids others : List (List ℕ)) (T U : Tables) → IsReady R m → IsReachedList R m ids → Compiles R m ids T
    → IsReachedList R m others → Compiles R m others U → T ≡ U

-- It has some.
abbrev pub SomeModel : Type 0
SomeModel = (R : Contents) (m : List ℕ) → IsReady R m → ¬ (¬ ((ids : List (List ℕ)) × (T : Tables) × IsReachedList R m ids × Compiles R m ids T))

-- Their types are sound, the code of each amount is of a simple type, codes are sorted, and `Document` is a sequence.
abbrev pub CompiledAreSound : Type 0
CompiledAreSound = (R : Contents) (m : List ℕ) (ids : List (List ℕ)) (T : Tables) → IsReady R m → IsReachedList R m ids → Compiles R m ids T
    → AreSound (types_of T) × HaveCodes (types_of T) × HaveSortedCodes (types_of T) × HasRoot (types_of T)

-- A message breaks one rule first, and one place of those that it reaches is the first that breaks it.
abbrev pub OneRefusal : Type 0
OneRefusal = (R : Contents) (m : List ℕ) (r s : MessageRule) (p q : Place) → IsRefused R m r p → IsRefused R m s q → (r ≡ s) × (p ≡ q)

-- A message that breaks no rule is not refused.
abbrev pub ReadyIsNotRefused : Type 0
ReadyIsNotRefused = (R : Contents) (m : List ℕ) (r : MessageRule) (p : Place) → IsReady R m → IsRefused R m r p → ⊥

-- No message neither breaks no rule nor is refused.
abbrev pub ReadyOrRefused : Type 0
ReadyOrRefused = (R : Contents) (m : List ℕ) → ¬ (¬ (IsReady R m ⊎ ((r : MessageRule) × (p : Place) × IsRefused R m r p)))
