-- Which lists of slots, by their numbers, the children of an element may be.
use Rattle.std.specs.Prelude.{◌≡◌, ℕ, ◌≤◌, ◌<◌, List, [], ◌∷◌, replicate, Option, Some, None, length, cond, ◌+◌, ◌==◌, slice_get}
use Rattle.reference_check.specs.Forms.{Slot, Form, Sequence, Choice}

-- how often a slot has come
abbrev pub times : ℕ → List ℕ → ℕ
times k [] = 0
times k (j ∷ d) = cond (j == k) 1 0 + times k d

abbrev pub UpTo : ℕ → Option ℕ → Type 0
UpTo n None = Unit {0}
UpTo n (Some max) = n ≤ max

-- the slot may come n times
abbrev pub MayComeTimes : {P : Type 0} → ℕ → Slot P → Type 0
MayComeTimes n s = (s.min ≤ n) × UpTo n s.max

-- no number is below the first bound or below one before it, and all are below the top
abbrev pub IsOrderedFrom : ℕ → ℕ → List ℕ → Type 0
IsOrderedFrom low top [] = Unit {0}
IsOrderedFrom low top (k ∷ d) = (low ≤ k) × (k < top) × IsOrderedFrom k top d

-- the slots come in order, each as often as it may
pub record IsSequence {P : Type 0} (slots : List (Slot P)) (d : List ℕ) : Type 0 where
  pub ordered : IsOrderedFrom 0 (length slots) d
  pub within : (k : ℕ) (s : Slot P) → slice_get slots k ≡ Some s → MayComeTimes (times k d) s

-- one alternative comes, as often as it may
abbrev pub IsChoice : {P : Type 0} → List (Slot P) → List ℕ → Type 0
IsChoice {P} slots d = (k : ℕ) × (n : ℕ) × (s : Slot P) × (slice_get slots k ≡ Some s) × MayComeTimes n s × (d ≡ replicate n k)

-- the children of an element of this form may be of these slots
abbrev pub IsWordOf : {P L : Type 0} → Form P L → List ℕ → Type 0
IsWordOf (Sequence slots) d = IsSequence slots d
IsWordOf (Choice slots) d = IsChoice slots d
IsWordOf form d = ⊥
