-- Places by their ranks, and what the tests of the rules on them say.
use Rattle.std.specs.Prelude.{◌≡◌, ◌≢◌, ◌⊎◌, ℕ, List, Option, Some, None, Contains, slice_get}
use Rattle.repo_objects.specs.Objects.{HasObjectTexts}
use Rattle.repo_objects.specs.declared.objects.Object.{Object}
use Rattle.repo_objects.specs.declared.objects.ObjectKind.TheVariants.{Other}
use Rattle.repo_objects.specs.Repository.{DictionaryEntry, Contents, IsRepository}
use Rattle.reference_check.specs.Graph.{Place, message, entry, find_entry}
use Rattle.reference_check.specs.Rules.{Rule, Breaks, HasNoPatterns}

-- the place of that rank; the message stands behind all objects
abbrev pub place_of_entry : Option DictionaryEntry → Place
place_of_entry None = message
place_of_entry (Some e) = entry e.id

abbrev pub place_at : Contents → ℕ → Place
place_at R k = place_of_entry (slice_get R.objects k)

-- none of the places of these ranks breaks the rule
abbrev pub NoneBreaks : Contents → List ℕ → Rule → List ℕ → Type 0
NoneBreaks R m rule ks = (k : ℕ) → Contains ks k → Breaks R m rule (place_at R k) → ⊥

-- the object stands at that place of a repository, and its id finds it
pub record StandsAt (R : Contents) (at : ℕ) (o : Object) : Type 0 where
  pub stored : DictionaryEntry
  pub there : slice_get R.objects at ≡ Some stored
  pub object_is : stored.object ≡ o
  pub found : find_entry stored.id R.objects ≡ Some o
  pub whole : IsRepository R
  pub texts : HasObjectTexts o

-- the object is of a kind that is left out, or has a pattern that its kind may not be given
abbrev pub IsLeftOut : Object → Type 0
IsLeftOut o = (o.kind ≡ Other) ⊎ (HasNoPatterns o.kind × (o.facets.pattern ≢ None))
