-- The numbers of types by the places of their objects.
use Rattle.std.specs.Prelude.{◌≡◌, ℕ, ◌+◌, ◌<◌, length, All, List, [], ◌∷◌, Some, slice_get, Contains}
use Rattle.facets.specs.declared.simple.Simple.{Simple}
use Rattle.repo_objects.specs.declared.objects.ElementDef.{ElementDef}
use Rattle.repo_objects.specs.declared.objects.Object.{Object}
use Rattle.repo_objects.specs.declared.objects.Kinds.{Kinds}
use Rattle.repo_objects.specs.declared.objects.ObjectKind.TheVariants as object
use Rattle.repo_objects.specs.Repository.{DictionaryEntry, Contents, entry_id}
use Rattle.reference_check.specs.Graph.{Place, references}
use Rattle.reference_check.specs.Reach.{kind_elements, kind_currency}
use Rattle.reference_check.specs.Forms.{Form, form_to}
use Rattle.reference_check.specs.Graph.{object_form, simple_form}
use Rattle.message_model.specs.FacetRules.{HasBadFacets}
use Rattle.message_model.specs.SimpleTypes.{facets_of}
use Rattle.message_model.specs.Tables.{TypeEntry}
use Rattle.message_model.specs.Compiled.{types, place_of, place_word, place_name}

-- the type of the first place has number 2, and so on
abbrev pub AreNumbers : List ℕ → List ℕ → Type 0
AreNumbers places numbers = (i k : ℕ) → slice_get places i ≡ Some k → slice_get numbers k ≡ Some (i + 2)

-- the ids of the objects at the places
abbrev pub ids_at : List DictionaryEntry → List ℕ → List (List ℕ)
ids_at es [] = []
ids_at es (k ∷ places) = entry_id (slice_get es k) ∷ ids_at es places

-- the object of that id stands at one of the places
pub record StandsAmong (es : List DictionaryEntry) (places : List ℕ) (id : List ℕ) : Type 0 where
  pub position : ℕ
  pub place : ℕ
  pub object : Object
  pub there : slice_get places position ≡ Some place
  pub found : slice_get es place ≡ Some (record { id = id; object = object })

-- the element names one object, at one of the places
pub record NamesPlace (es : List DictionaryEntry) (places : List ℕ) (e : ElementDef) : Type 0 where
  pub id : List ℕ
  pub one : references e ≡ id ∷ []
  pub stands : StandsAmong es places id

-- so do all of these elements
abbrev pub NamePlaces : List DictionaryEntry → List ℕ → List ElementDef → Type 0
NamePlaces es places elements = (e : ElementDef) → Contains elements e → NamesPlace es places e

-- The object can be compiled: its elements and its currency name objects at the places, its facets are within bounds, and its kind has a form.
pub record IsCompilable (R : Contents) (places : List ℕ) (o : Object) : Type 0 where
  pub elements : NamePlaces R.objects places (kind_elements o.kind o.elements)
  pub currency : (c : List ℕ) → kind_currency o.kind o.currency ≡ Some c → StandsAmong R.objects places c
  pub facets : HasBadFacets o → ⊥
  pub kind : o.kind ≡ object.Other → ⊥

-- the layout is that of the object, whose targets are numbers of these places
abbrev pub IsLayoutOf : Contents → List ℕ → Object → Form ℕ Simple → Type 0
IsLayoutOf R places o form = form_to (place_of (ids_at R.objects places)) (λ x. x) form ≡ form_to (λ q. q) (facets_of R) (object_form R o o.kind)

-- the entry is the type of the place
pub record IsTypeOf (R : Contents) (m : List ℕ) (places : List ℕ) (p : Place) (t : TypeEntry) : Type 0 where
  pub form : form_to (place_of (ids_at R.objects places)) (λ x. x) t.form ≡ types R m p
  pub word : t.word ≡ place_word R p
  pub name : t.name ≡ place_name R m p

-- each entry is the type of its place
abbrev pub AreTypesOf : Contents → List ℕ → List ℕ → List Place → List TypeEntry → Type 0
AreTypesOf R m places [] [] = Unit {0}
AreTypesOf R m places (p ∷ ps) (t ∷ ts) = IsTypeOf R m places p t × AreTypesOf R m places ps ts
AreTypesOf R m places _ _ = ⊥

-- each object at the places can be compiled
pub record AreCompilable (R : Contents) (places : List ℕ) : Type 0 where
  pub within : All (λ k. k < length R.objects) places
  pub each : (k : ℕ) (e : DictionaryEntry) → Contains places k → slice_get R.objects k ≡ Some e → IsCompilable R places e.object

-- the same of a data type of this kind with these facets
abbrev pub IsSimpleLayout : Contents → List ℕ → Object → Kinds → Simple → Form ℕ Simple → Type 0
IsSimpleLayout R places o kind base form = base ≡ facets_of R o
    → form_to (place_of (ids_at R.objects places)) (λ x. x) form ≡ form_to (λ q. q) (facets_of R) (simple_form R o kind o.currency)
