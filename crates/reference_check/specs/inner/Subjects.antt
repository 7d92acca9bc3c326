-- What is asked of a reached object or of the message, whichever it is.
use Rattle.std.specs.Prelude.{◌≡◌, ◌<◌, ◌⊎◌, ℕ, List, [], ◌∷◌, ◌++◌, map, length, Option, Some, None, slice_get, Contains}
use Rattle.std.specs.List.{flat_map}
use Rattle.repo_objects.specs.declared.objects.ElementDef.{ElementDef}
use Rattle.repo_objects.specs.declared.objects.Object.{Object}
use Rattle.repo_objects.specs.declared.objects.ObjectKind.TheVariants.{Choice}
use Rattle.repo_objects.specs.Repository.{Contents}
use Rattle.reference_check.specs.declared.subject.Subject.{Subject}
use Rattle.reference_check.specs.declared.subject.Subject.TheVariants.{Entry, Message}
use Rattle.reference_check.specs.declared.structure.StructureRule.{StructureRule}
use Rattle.reference_check.specs.declared.structure.StructureRule.TheVariants as asked
use Rattle.reference_check.specs.Graph.{Place, message, entry, find_entry, find_message, references, given_id}
use Rattle.reference_check.specs.Reach.{kind_elements, kind_currency}
use Rattle.reference_check.specs.Rules as rule
use Rattle.reference_check.specs.Rules.{Rule, HasNoEntry, IsTextKind, HasBadName, UpToMax}

-- it stands at the place
abbrev pub IsSubject : Contents → List ℕ → Place → Subject → Type 0
IsSubject R m p (Entry o) = (id : List ℕ) × (p ≡ entry id) × (find_entry id R.objects ≡ Some o.now)
IsSubject R m p (Message d) = (p ≡ message) × (find_message m R.messages ≡ Some d.now)

abbrev pub subject_elements : Subject → List ElementDef
subject_elements (Entry o) = kind_elements o.now.kind o.now.elements
subject_elements (Message d) = d.now.blocks

abbrev pub subject_currency : Subject → Option (List ℕ)
subject_currency (Entry o) = kind_currency o.now.kind o.now.currency
subject_currency (Message d) = None

-- the names that are asked by themselves
abbrev pub subject_names : Subject → List (List ℕ)
subject_names (Entry o) = o.now.name ∷ []
subject_names (Message d) = d.now.name ∷ (d.now.tag ∷ [])

-- the ids that it refers to
abbrev pub subject_targets : Subject → List (List ℕ)
subject_targets s = flat_map references (subject_elements s) ++ given_id (subject_currency s)

-- ---- the rules of structure

-- what is asked, as a rule
abbrev pub asked_rule : StructureRule → Rule
asked_rule asked.Dangling = rule.Dangling
asked_rule asked.BadCurrency = rule.BadCurrency
asked_rule asked.NotOneReference = rule.NotOneReference
asked_rule asked.BadName = rule.BadName
asked_rule asked.TagTwice = rule.TagTwice
asked_rule asked.BadBounds = rule.BadBounds
asked_rule asked.OptionalAlternative = rule.OptionalAlternative
asked_rule asked.NoAlternatives = rule.NoAlternatives

-- an id among these names no entry
abbrev pub NamesNoEntry : Contents → List (List ℕ) → Type 0
NamesNoEntry R ids = (id : List ℕ) × Contains ids id × HasNoEntry R id

abbrev pub HasDangling : Contents → List ElementDef → Option (List ℕ) → Type 0
HasDangling R es currency =
    ((e : ElementDef) × (id : List ℕ) × Contains es e × Contains (references e) id × HasNoEntry R id)
    ⊎ ((id : List ℕ) × (currency ≡ Some id) × HasNoEntry R id)

abbrev pub HasBadCurrency : Contents → Option (List ℕ) → Type 0
HasBadCurrency R currency = (id : List ℕ) × (o : Object) × (currency ≡ Some id) × (find_entry id R.objects ≡ Some o) × (IsTextKind o.kind → ⊥)

abbrev pub NamesNotOne : List ElementDef → Type 0
NamesNotOne es = (e : ElementDef) × Contains es e × (length (references e) ≡ 1 → ⊥)

abbrev pub HasTagTwice : List ElementDef → Type 0
HasTagTwice es = (i : ℕ) × (j : ℕ) × (a : ElementDef) × (b : ElementDef) × (i < j) × (slice_get es i ≡ Some a) × (slice_get es j ≡ Some b) × (a.tag ≡ b.tag)

abbrev pub HasBadElementBounds : List ElementDef → Type 0
HasBadElementBounds es = (e : ElementDef) × Contains es e × (UpToMax e.min e.max → ⊥)

abbrev pub IsOptionalChoice : Object → Type 0
IsOptionalChoice o = (o.kind ≡ Choice) × (e : ElementDef) × Contains o.elements e × (e.min ≡ 0)

abbrev pub IsEmptyChoice : Object → Type 0
IsEmptyChoice o = (o.kind ≡ Choice) × (o.elements ≡ [])

-- what is said of an object
abbrev pub OfEntry : Subject → (Object → Type 0) → Type 0
OfEntry (Entry o) Says = Says o.now
OfEntry (Message d) Says = ⊥

-- it breaks the rule
abbrev pub BreaksStructureRule : Contents → StructureRule → Subject → Type 0
BreaksStructureRule R asked.Dangling s = HasDangling R (subject_elements s) (subject_currency s)
BreaksStructureRule R asked.BadCurrency s = HasBadCurrency R (subject_currency s)
BreaksStructureRule R asked.NotOneReference s = NamesNotOne (subject_elements s)
BreaksStructureRule R asked.BadName s = HasBadName (subject_names s ++ map (λ (e : ElementDef). e.tag) (subject_elements s))
BreaksStructureRule R asked.TagTwice s = HasTagTwice (subject_elements s)
BreaksStructureRule R asked.BadBounds s = HasBadElementBounds (subject_elements s)
BreaksStructureRule R asked.OptionalAlternative s = OfEntry s IsOptionalChoice
BreaksStructureRule R asked.NoAlternatives s = OfEntry s IsEmptyChoice
