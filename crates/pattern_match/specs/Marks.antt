-- The marks of a matcher with the places of those that are set: the state of a machine, which the contracts of private functions alone cite.
use Rattle.std.specs.Prelude.{ℕ, zero, suc, ◌≡◌, ◌+◌, ◌-◌, ◌<◌, ◌≤◌, ◌==◌, Bool, true, false, if◌then◌else◌, List, [], ◌∷◌, ◌++◌, length, take, drop, replicate}
use Rattle.pattern_match.specs.Marking.{first_pass, second_pass}
use Rattle.pattern_match.specs.declared.instruction.Frame.{Frame}
use Rattle.pattern_match.specs.declared.instruction.Instruction.{Instruction}
use Rattle.pattern_match.specs.declared.instruction.Instruction.TheVariants.{Take, Open, Bar, Close}

-- the marks, how many of them a pass has behind it, and the places that are listed behind it and ahead of it
pub record Walk : Type 0 where
  pub cells : List Bool
  pub at : ℕ
  pub behind : List ℕ
  pub ahead : List ℕ

-- a group that the instruction begins ends within so many instructions behind it
abbrev pub IsGroupEnded : Instruction → ℕ → Type 0
IsGroupEnded (Take at optional repeated) n = Unit {0}
IsGroupEnded (Open length optional repeated) n = length < n
IsGroupEnded Bar n = Unit {0}
IsGroupEnded Close n = Unit {0}

-- the groups that begin among the first n instructions end among them
abbrev pub AreEnded : ℕ → List Instruction → Type 0
AreEnded zero code = Unit {0}
AreEnded (suc n) [] = Unit {0}
AreEnded (suc n) (i ∷ code) = IsGroupEnded i n × AreEnded n code

-- the places, in ascending order, of such instructions, the first of which has this one, that none of the others is marked, and each group that holds one of them is one too
abbrev pub ListsPlaces : ℕ → List Instruction → List Bool → List ℕ → Type 0
ListsPlaces from code marks [] = (more : List Bool) × (marks ≡ replicate (length code) false ++ more) × AreEnded (length code) code
ListsPlaces from code marks (place ∷ places) =
    (unset : ℕ) × (mark : Bool) × (later : List Bool) × (place ≡ from + unset) × (unset < length code) × (marks ≡ replicate unset false ++ mark ∷ later)
    × AreEnded unset code × ListsPlaces (place + 1) (drop (suc unset) code) later places

-- the first of the places, or this one
abbrev pub first_place_or : List ℕ → ℕ → ℕ
first_place_or [] none = none
first_place_or (place ∷ places) none = place

-- the places behind this one, which may be the first of them
abbrev pub past : ℕ → List ℕ → List ℕ
past at [] = []
past at (place ∷ places) = if place == at then places else place ∷ places

-- a pass is within the marks of the code, and those that are set are listed
pub record IsListed (code : List Instruction) (walk : Walk) : Type 0 where
  pub long : length walk.cells ≡ length code + 1
  pub inside : walk.at ≤ length code
  pub behind : ListsPlaces 0 (take walk.at code) (take walk.at walk.cells) walk.behind
  pub ahead : ListsPlaces walk.at (drop walk.at code) (drop walk.at walk.cells) walk.ahead

-- the instruction begins a group
abbrev pub is_open : Instruction → Bool
is_open (Take at optional repeated) = false
is_open (Open length optional repeated) = true
is_open Bar = false
is_open Close = false

-- what a first pass that has come so far makes of the marks
abbrev pub first_rest : (ℕ → Bool) → List Instruction → Walk → Bool → List Frame → List Bool
first_rest admits code walk live frames = take walk.at walk.cells ++ first_pass admits (drop walk.at code) (drop walk.at walk.cells) live frames

-- what a second pass that has come so far makes of them
abbrev pub second_rest : List Instruction → Walk → Bool → List Frame → List Bool
second_rest code walk live frames = take walk.at walk.cells ++ second_pass (drop walk.at code) (drop walk.at walk.cells) live frames

-- a pass goes on over marks that are not set, and groups that are not listed
pub record Skips (code : List Instruction) (old new : Walk) : Type 0 where
  pub listed : IsListed code new
  pub cells : new.cells ≡ old.cells
  pub further : old.at ≤ new.at
  pub unset : drop old.at old.cells ≡ replicate (new.at - old.at) false ++ drop new.at old.cells
  pub ended : AreEnded (new.at - old.at) (drop old.at code)

-- a pass has all marks of the code behind it
pub record IsDone (code : List Instruction) (walk : Walk) : Type 0 where
  pub listed : IsListed code walk
  pub at : walk.at ≡ length code

-- the marks behind the pass are as the first are, and of the others the same places are listed
pub record Starts (code : List Instruction) (first walk : Walk) : Type 0 where
  pub listed : IsListed code walk
  pub long : length first.cells ≡ length code + 1
  pub ahead : ListsPlaces walk.at (drop walk.at code) (drop walk.at first.cells) walk.ahead
  pub same : take walk.at walk.cells ≡ take walk.at first.cells
