-- The first of the reached objects of which something holds.
use Rattle.std.specs.Prelude.{◌≡◌, ℕ, ◌<◌, List, Option, Some, None, slice_get}
use Rattle.repo_objects.specs.declared.objects.Object.{Object}
use Rattle.repo_objects.specs.Repository.{DictionaryEntry}
use Rattle.reference_check.specs.declared.reached.ReadyError.{ReadyError}
use Rattle.reference_check.specs.declared.reached.ReadyError.TheVariants.{Broken, Memory}

-- it holds of no object at the places that stand before this one in their list
abbrev pub HoldsBefore : (Object → Type 0) → List DictionaryEntry → List ℕ → ℕ → Type 0
HoldsBefore Says es places i = (j k : ℕ) (e : DictionaryEntry) → j < i → slice_get places j ≡ Some k → slice_get es k ≡ Some e → Says e.object → ⊥

-- the object that stands there in the list is the first of which it holds
pub record IsFirstPlace (Says : Object → Type 0) (es : List DictionaryEntry) (places : List ℕ) (k : ℕ) : Type 0 where
  pub position : ℕ
  pub there : slice_get places position ≡ Some k
  pub entry : DictionaryEntry
  pub found : slice_get es k ≡ Some entry
  pub holds : Says entry.object
  pub before : HoldsBefore Says es places position

-- it holds of no object at the places, or this is the first
abbrev pub TellsPlace : (Object → Type 0) → List DictionaryEntry → List ℕ → Option ℕ → Type 0
TellsPlace Says es places None = (j k : ℕ) (e : DictionaryEntry) → slice_get places j ≡ Some k → slice_get es k ≡ Some e → Says e.object → ⊥
TellsPlace Says es places (Some k) = IsFirstPlace Says es places k

-- the error tells this rule and the id of this place
abbrev pub TellsEntry : List DictionaryEntry → ℕ → ℕ → ReadyError → Type 0
TellsEntry es number k (Broken told object) = (told ≡ number) × ((e : DictionaryEntry) → slice_get es k ≡ Some e → object ≡ e.id)
TellsEntry es number k Memory = Unit {0}
