-- The tables of a message: its types by number, each that of a place of the repository.
use Rattle.std.specs.Prelude.{◌≡◌, ◌↔◌, ℕ, ◌<◌, List, [], ◌∷◌, Option, Some, None, map, codes, slice_get, Contains, AllPairs}
use Rattle.facets.specs.declared.simple.Simple.{Simple}
use Rattle.repo_objects.specs.declared.objects.MessageDef.{MessageDef}
use Rattle.repo_objects.specs.declared.objects.Object.{Object}
use Rattle.repo_objects.specs.Repository.{Contents}
use Rattle.reference_check.specs.Graph.{Place, document, message, entry, nowhere, find_entry, find_message}
use Rattle.reference_check.specs.Reach.{Reaches, rank_of}
use Rattle.reference_check.specs.Forms.{Graph, form_to}
use Rattle.reference_check.specs.Graph.{graph}
use Rattle.message_model.specs.SimpleTypes.{facets_of}
use Rattle.message_model.specs.Tables.{Tables, TypeEntry, types_of}

-- the forms of a message, with the simple types of its data types
abbrev pub types : Contents → List ℕ → Graph Place Simple
types R m p = form_to (λ q. q) (facets_of R) (graph R m p)

-- the ids of the objects that a message reaches, in file order
pub record IsReachedList (R : Contents) (m : List ℕ) (ids : List (List ℕ)) : Type 0 where
  pub ordered : AllPairs (λ a b. rank_of R (entry a) < rank_of R (entry b)) ids
  pub reached : (id : List ℕ) → Contains ids id ↔ Reaches R m (entry id)

-- the places of the types in the order of their numbers: `Document`, the message, and the objects
abbrev pub places_of : List (List ℕ) → List Place
places_of ids = document ∷ (message ∷ map entry ids)

abbrev pub place_or_nowhere : Option Place → Place
place_or_nowhere None = nowhere
place_or_nowhere (Some p) = p

-- the place of the type of that number
abbrev pub place_of : List (List ℕ) → ℕ → Place
place_of ids n = place_or_nowhere (slice_get (places_of ids) n)

abbrev pub object_word : Option Object → List ℕ
object_word None = []
object_word (Some o) = o.word

-- the word for the kind of a type
abbrev pub place_word : Contents → Place → List ℕ
place_word R document = codes "Document"
place_word R message = codes "Message"
place_word R (entry id) = object_word (find_entry id R.objects)
place_word R nowhere = []

abbrev pub object_name : Option Object → List ℕ
object_name None = []
object_name (Some o) = o.name

abbrev pub message_name : Option MessageDef → List ℕ
message_name None = []
message_name (Some d) = d.name

-- the name of a type
abbrev pub place_name : Contents → List ℕ → Place → List ℕ
place_name R m document = codes "Document"
place_name R m message = message_name (find_message m R.messages)
place_name R m (entry id) = object_name (find_entry id R.objects)
place_name R m nowhere = []

-- The tables are those of the message, whose reached objects have these ids: the form of each number is that of its place, and each target
-- the number of the place that is led to. A number past the last is that of nowhere, whose form is missing.
pub record Compiles (R : Contents) (m : List ℕ) (ids : List (List ℕ)) (T : Tables) : Type 0 where
  pub id : T.id ≡ m
  pub forms : (n : ℕ) → form_to (place_of ids) (λ x. x) (types_of T n) ≡ types R m (place_of ids n)
  pub words : map (λ (t : TypeEntry). t.word) T.types ≡ map (place_word R) (places_of ids)
  pub names : map (λ (t : TypeEntry). t.name) T.types ≡ map (place_name R m) (places_of ids)
