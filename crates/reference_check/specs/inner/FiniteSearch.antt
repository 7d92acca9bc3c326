-- The search for the reached objects that have a finite instance.
use Rattle.std.specs.Prelude.{◌≡◌, ℕ, suc, ◌<◌, ◌≤◌, ◌⊎◌, Bool, true, false, List, [], ◌∷◌, Option, Some, None, length, slice_get, Contains}
use Rattle.repo_objects.specs.declared.objects.ElementDef.{ElementDef}
use Rattle.repo_objects.specs.declared.objects.Object.{Object}
use Rattle.repo_objects.specs.declared.objects.ObjectKind.{ObjectKind}
use Rattle.repo_objects.specs.declared.objects.ObjectKind.TheVariants.{Component, Choice}
use Rattle.repo_objects.specs.declared.objects.MessageDef.{MessageDef}
use Rattle.repo_objects.specs.Repository.{DictionaryEntry, Contents, HasIdAt, IsRepository}
use Rattle.reference_check.specs.declared.finite.Mark.{Mark}
use Rattle.reference_check.specs.declared.finite.Mark.TheVariants.{Unreached, Open, Finite}
use Rattle.reference_check.specs.Graph.{entry, graph, references}
use Rattle.reference_check.specs.Shapes.{IsFinite}
use Rattle.reference_check.specs.Reach.{Reaches}
use Rattle.reference_check.specs.Rules.{IsSound, IsBelowEndless}

-- ---- elements

-- the one id that an element names
abbrev pub only_one : List (List ℕ) → Option (List ℕ)
only_one (id ∷ []) = Some id
only_one _ = None

-- the element names the object at this place, and no other
abbrev pub LeadsTo : List DictionaryEntry → ElementDef → ℕ → Type 0
LeadsTo es d k = (id : List ℕ) × (only_one (references d) ≡ Some id) × HasIdAt es k id

abbrev pub TellsTarget : List DictionaryEntry → ElementDef → Option ℕ → Type 0
TellsTarget es d None = (j : ℕ) → LeadsTo es d j → ⊥
TellsTarget es d (Some k) = LeadsTo es d k × ((j : ℕ) → LeadsTo es d j → j ≡ k)

-- the object at this place has a finite instance
abbrev pub IsFoundAt : List Mark → ℕ → Type 0
IsFoundAt marks k = slice_get marks k ≡ Some Finite

-- the element need not stand, or what it leads to has a finite instance
abbrev pub IsFree : List DictionaryEntry → List Mark → ElementDef → Type 0
IsFree es marks d = (d.min ≡ 0) ⊎ ((k : ℕ) × LeadsTo es d k × IsFoundAt marks k)

-- the element has to stand, and what it leads to has no finite instance yet, or its users were not told of it
abbrev pub IsBlocked : List DictionaryEntry → List Mark → List ℕ → ElementDef → Type 0
IsBlocked es marks untold d = (d.min ≡ 0 → ⊥) × ((k : ℕ) → LeadsTo es d k → IsFoundAt marks k → Contains untold k)

-- whether one element is free, and whether some of a list is
abbrev pub TellsFree : List DictionaryEntry → List Mark → ElementDef → Bool → Type 0
TellsFree es marks d true = IsFree es marks d
TellsFree es marks d false = IsBlocked es marks [] d

abbrev pub SomeFree : List DictionaryEntry → List Mark → List ElementDef → Type 0
SomeFree es marks ds = (i : ℕ) × (d : ElementDef) × (slice_get ds i ≡ Some d) × IsFree es marks d

abbrev pub AllBlocked : List DictionaryEntry → List Mark → List ℕ → List ElementDef → Type 0
AllBlocked es marks untold ds = (i : ℕ) (d : ElementDef) → slice_get ds i ≡ Some d → IsBlocked es marks untold d

abbrev pub SomeBlocked : List DictionaryEntry → List Mark → List ℕ → List ElementDef → Type 0
SomeBlocked es marks untold ds = (i : ℕ) × (d : ElementDef) × (slice_get ds i ≡ Some d) × IsBlocked es marks untold d

abbrev pub TellsSomeFree : List DictionaryEntry → List Mark → List ElementDef → Bool → Type 0
TellsSomeFree es marks ds true = SomeFree es marks ds
TellsSomeFree es marks ds false = AllBlocked es marks [] ds

-- the elements from one place up to another are free
abbrev pub AreFree : List DictionaryEntry → List Mark → List ElementDef → ℕ → ℕ → Type 0
AreFree es marks ds low high = (i : ℕ) (d : ElementDef) → low ≤ i → i < high → slice_get ds i ≡ Some d → IsFree es marks d

-- the first element from a place on that is blocked
abbrev pub TellsBlocked : List DictionaryEntry → List Mark → List ElementDef → ℕ → Option ℕ → Type 0
TellsBlocked es marks ds low None = AreFree es marks ds low (length ds)
TellsBlocked es marks ds low (Some at) =
    (d : ElementDef) × (slice_get ds at ≡ Some d) × IsBlocked es marks [] d × AreFree es marks ds low at

-- ---- objects

-- the elements of an object of this kind do not keep it from having a finite instance
abbrev pub LetThrough : List DictionaryEntry → List Mark → ObjectKind → List ElementDef → Type 0
LetThrough es marks Component ds = AreFree es marks ds 0 (length ds)
LetThrough es marks Choice ds = SomeFree es marks ds
LetThrough es marks kind ds = Unit {0}

-- they do
abbrev pub HoldBack : List DictionaryEntry → List Mark → List ℕ → ObjectKind → List ElementDef → Type 0
HoldBack es marks untold Component ds = SomeBlocked es marks untold ds
HoldBack es marks untold Choice ds = AllBlocked es marks untold ds
HoldBack es marks untold kind ds = ⊥

-- where an object is held back, of which the elements before `low` are free: those before the place that is told are
abbrev pub TellsHeld : List DictionaryEntry → List Mark → Object → ℕ → Option ℕ → Type 0
TellsHeld es marks o low None = AreFree es marks o.elements 0 low → LetThrough es marks o.kind o.elements
TellsHeld es marks o low (Some at) =
    HoldBack es marks [] o.kind o.elements × (AreFree es marks o.elements 0 low → AreFree es marks o.elements 0 at)

-- ---- the users of each object

abbrev pub IsUser : List (List ℕ) → ℕ → ℕ → Type 0
IsUser users k u = (list : List ℕ) × (slice_get users k ≡ Some list) × Contains list u

-- the object at u is a user of what its elements, of those that have to stand, lead to
abbrev pub IsListedFor : List DictionaryEntry → List (List ℕ) → ℕ → ElementDef → Type 0
IsListedFor es users u d = (k : ℕ) → (d.min ≡ 0 → ⊥) → LeadsTo es d k → IsUser users k u

abbrev pub IsListedForAll : List DictionaryEntry → List (List ℕ) → ℕ → List ElementDef → Type 0
IsListedForAll es users u ds = (i : ℕ) (d : ElementDef) → slice_get ds i ≡ Some d → IsListedFor es users u d

abbrev pub IsUserListed : List DictionaryEntry → List (List ℕ) → ℕ → Type 0
IsUserListed es users u = (e : DictionaryEntry) → slice_get es u ≡ Some e → IsListedForAll es users u e.object.elements

abbrev pub AreListed : List DictionaryEntry → List (List ℕ) → List ℕ → Type 0
AreListed es users places = (u : ℕ) → Contains places u → IsUserListed es users u

-- the lists grew
abbrev pub KeepsUsers : List (List ℕ) → List (List ℕ) → Type 0
KeepsUsers old new = (k u : ℕ) → IsUser old k u → IsUser new k u

-- ---- the search

-- how many of its elements, from the first, are known to be free, of an object that has no finite instance yet
abbrev pub free_of : Option Mark → Option ℕ
free_of (Some (Open n)) = Some n
free_of _ = None

-- how many objects have no finite instance yet
abbrev pub open_marks : List Mark → ℕ
open_marks [] = 0
open_marks (Open n ∷ marks) = suc (open_marks marks)
open_marks (_ ∷ marks) = open_marks marks

-- the marks at the beginning, where these places are reached
abbrev pub IsStartMark : List ℕ → ℕ → Mark → Type 0
IsStartMark places k Unreached = Contains places k → ⊥
IsStartMark places k (Open n) = (n ≡ 0) × Contains places k
IsStartMark places k Finite = ⊥

abbrev pub AreStart : List ℕ → List Mark → Type 0
AreStart places marks = (k : ℕ) (x : Mark) → slice_get marks k ≡ Some x → IsStartMark places k x

abbrev pub IsReachedMark : Mark → Type 0
IsReachedMark Unreached = ⊥
IsReachedMark _ = Unit {0}

-- The marks of a message's objects: of some the users were not told yet, and some are still to be looked at.
pub record IsSearch (R : Contents) (m : List ℕ) (marks : List Mark) (untold rest : List ℕ) : Type 0 where
  pub whole : IsRepository R
  pub below : IsSound R m IsBelowEndless
  pub size : length marks ≡ length R.objects
  pub marked : (k : ℕ) (e : DictionaryEntry) → slice_get R.objects k ≡ Some e → Reaches R m (entry e.id) → (x : Mark) × (slice_get marks k ≡ Some x) × IsReachedMark x
  pub reached : (k : ℕ) (e : DictionaryEntry) (x : Mark) → slice_get R.objects k ≡ Some e → slice_get marks k ≡ Some x → IsReachedMark x → Reaches R m (entry e.id)
  pub finite : (k : ℕ) (e : DictionaryEntry) → slice_get R.objects k ≡ Some e → IsFoundAt marks k → IsFinite (graph R m) (entry e.id)
  pub free : (k n : ℕ) (e : DictionaryEntry) → slice_get R.objects k ≡ Some e → slice_get marks k ≡ Some (Open n) → AreFree R.objects marks e.object.elements 0 n
  pub held : (k n : ℕ) (e : DictionaryEntry) → slice_get R.objects k ≡ Some e → slice_get marks k ≡ Some (Open n) → HoldBack R.objects marks untold e.object.kind e.object.elements ⊎ Contains rest k

-- these places are those of all objects that the message reaches
abbrev pub HoldsReached : Contents → List ℕ → List ℕ → Type 0
HoldsReached R m places = (k : ℕ) (e : DictionaryEntry) → slice_get R.objects k ≡ Some e → Reaches R m (entry e.id) → Contains places k

-- the first place of an object that is reached and has no finite instance
abbrev pub TellsFirstOpen : List Mark → Option ℕ → Type 0
TellsFirstOpen marks None = (k n : ℕ) → slice_get marks k ≡ Some (Open n) → ⊥
TellsFirstOpen marks (Some at) =
    (n : ℕ) × (slice_get marks at ≡ Some (Open n)) × ((k free : ℕ) → k < at → slice_get marks k ≡ Some (Open free) → ⊥)

-- whether the blocks of the message at this place let it have a finite instance
abbrev pub TellsMessage : Contents → List Mark → ℕ → Bool → Type 0
TellsMessage R marks at true = (d : MessageDef) × (slice_get R.messages at ≡ Some d) × AreFree R.objects marks d.blocks 0 (length d.blocks)
TellsMessage R marks at false = (d : MessageDef) → slice_get R.messages at ≡ Some d → SomeBlocked R.objects marks [] d.blocks
