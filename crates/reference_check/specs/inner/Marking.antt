-- The marks of the objects that are reached so far, and what one step of the search does to them.
use Rattle.std.specs.Prelude.{◌≡◌, ◌+◌, ◌⊎◌, ℕ, Bool, false, true, List, [], ◌∷◌, ◌++◌, length, cond, Some, slice_get, slice_set, slice_index_or, Contains, if◌then◌else◌}
use Rattle.std.specs.List.{flat_map}
use Rattle.repo_objects.specs.Repository.{DictionaryEntry, Contents}
use Rattle.reference_check.specs.declared.marks.Marks.{Marks}
use Rattle.reference_check.specs.Graph.{Place, entry, references, given_id}
use Rattle.reference_check.specs.Reach.{elements_of, currency_of, Reaches}

-- the object at the place is marked
abbrev pub IsObjectMarked : List Bool → ℕ → Type 0
IsObjectMarked marked k = slice_index_or marked k false ≡ true

-- the object of the id is marked, if there is one
abbrev pub IsIdMarked : Contents → List Bool → List ℕ → Type 0
IsIdMarked R marked id = (k : ℕ) (e : DictionaryEntry) → slice_get R.objects k ≡ Some e → e.id ≡ id → IsObjectMarked marked k

-- the ids that the object or the message refers to
abbrev pub targets_of : Contents → List ℕ → Place → List (List ℕ)
targets_of R m p = flat_map references (elements_of R m p) ++ given_id (currency_of R p)

-- what it refers to is marked
abbrev pub LeadsWithin : Contents → List ℕ → List Bool → Place → Type 0
LeadsWithin R m marked p = (id : List ℕ) → Contains (targets_of R m p) id → IsIdMarked R marked id

-- Marked objects are reached. What they refer to is marked, but for those that wait, and those that are being followed.
pub record AreMarks (R : Contents) (m : List ℕ) (followed : List ℕ) (marked : List Bool) (waiting : List ℕ) : Type 0 where
  pub reached : (k : ℕ) (e : DictionaryEntry) → IsObjectMarked marked k → slice_get R.objects k ≡ Some e → Reaches R m (entry e.id)
  pub waits : (k : ℕ) → Contains waiting k → IsObjectMarked marked k
  pub closed : (k : ℕ) (e : DictionaryEntry) → IsObjectMarked marked k → slice_get R.objects k ≡ Some e
      → Contains followed k ⊎ Contains waiting k ⊎ LeadsWithin R m marked (entry e.id)

-- how many objects are not marked
abbrev pub unmarked_count : List Bool → ℕ
unmarked_count [] = 0
unmarked_count (b ∷ bs) = cond b 0 1 + unmarked_count bs

-- how many turns are left: each object is followed once
abbrev pub turns_left : Marks → ℕ
turns_left s = unmarked_count s.marked.items + length s.waiting.items

-- the object at the place is marked, and waits if it was not marked
pub record AddsAt (at : ℕ) (old new : Marks) : Type 0 where
  pub marked : new.marked.items ≡ slice_set old.marked.items at true
  pub waiting : new.waiting.items ≡ (if slice_index_or old.marked.items at false then old.waiting.items else old.waiting.items ++ at ∷ [])

-- what a step keeps
pub record Grows (old new : Marks) : Type 0 where
  pub kept : (k : ℕ) → IsObjectMarked old.marked.items k → IsObjectMarked new.marked.items k
  pub turns : turns_left new ≡ turns_left old
  pub long : length new.marked.items ≡ length old.marked.items

-- the objects of the ids are marked, and nothing else is
pub record Adds (R : Contents) (ids : List (List ℕ)) (old new : Marks) : Type 0 where
  pub sound : (m : List ℕ) (followed : List ℕ) → ((id : List ℕ) → Contains ids id → Reaches R m (entry id)) → AreMarks R m followed old.marked.items old.waiting.items
      → AreMarks R m followed new.marked.items new.waiting.items
  pub added : (id : List ℕ) → Contains ids id → IsIdMarked R new.marked.items id
  pub grows : Grows old new

-- what the object at the place refers to is marked
pub record Visits (R : Contents) (at : ℕ) (old new : Marks) : Type 0 where
  pub closed : (m : List ℕ) → IsObjectMarked old.marked.items at → AreMarks R m (at ∷ []) old.marked.items old.waiting.items
      → AreMarks R m [] new.marked.items new.waiting.items
  pub grows : Grows old new
