-- What contracts see of a repository: the objects of its data dictionary under their ids, and its messages.
use Rattle.std.specs.Prelude.{◌≢◌, ℕ, zero, suc, List, [], ◌∷◌, map, All, AllPairs, Contains, slice_get, Option, Some, None, ◌≡◌}
use Rattle.lexical_core.specs.Characters.{IsXmlText}
use Rattle.repo_objects.specs.declared.objects.Object.{Object}
use Rattle.repo_objects.specs.declared.objects.MessageDef.{MessageDef}
use Rattle.repo_objects.specs.declared.objects.CodeDef.{CodeDef}
use Rattle.repo_objects.specs.Objects.{HasObjectTexts, HasMessageTexts}

-- an object and the id that names it
pub record DictionaryEntry : Type 0 where
  pub id : List ℕ
  pub object : Object

-- both lists are in file order
pub record Contents : Type 0 where
  pub objects : List DictionaryEntry
  pub messages : List MessageDef

-- the ids, in file order
abbrev pub ids_of : List DictionaryEntry → List (List ℕ)
ids_of entries = map (λ (entry : DictionaryEntry). entry.id) entries

-- some object has that id
abbrev pub HasId : List DictionaryEntry → List ℕ → Type 0
HasId entries id = Contains (ids_of entries) id

-- the object at that place has that id
abbrev pub HasIdAt : List DictionaryEntry → ℕ → List ℕ → Type 0
HasIdAt entries at id = (e : DictionaryEntry) × (slice_get entries at ≡ Some e) × (e.id ≡ id)

-- the entry with these codes in the place of its own
abbrev pub entry_with_codes : List CodeDef → DictionaryEntry → DictionaryEntry
entry_with_codes codes entry = record entry { object = record entry.object { codes = codes } }

-- the objects, where the one at that place has these codes in the place of its own
abbrev pub with_codes : List DictionaryEntry → ℕ → List CodeDef → List DictionaryEntry
with_codes [] at codes = []
with_codes (entry ∷ entries) zero codes = entry_with_codes codes entry ∷ entries
with_codes (entry ∷ entries) (suc at) codes = entry ∷ with_codes entries at codes

-- the texts of an entry
pub record HasEntryTexts (entry : DictionaryEntry) : Type 0 where
  pub id : IsXmlText entry.id
  pub object : HasObjectTexts entry.object

-- no two objects have one id, and all texts are UTF-8 of characters of XML
pub record IsRepository (contents : Contents) : Type 0 where
  pub distinct : AllPairs (λ one other. one ≢ other) (ids_of contents.objects)
  pub object_texts : All HasEntryTexts contents.objects
  pub message_texts : All HasMessageTexts contents.messages

-- the id of an entry, empty where there is none
abbrev pub entry_id : Option DictionaryEntry → List ℕ
entry_id None = []
entry_id (Some e) = e.id
