-- What a repository says behind one more element that is read.
use Rattle.std.specs.Prelude.{Bool, true, false, List, [], ◌∷◌, ◌++◌, if◌then◌else◌}
use Rattle.repo_objects.specs.Repository.{DictionaryEntry as Named}
use Rattle.repo_loader.specs.Selected.{FileTag}
use Rattle.repo_loader.specs.File.{is_entry, kind_at, own_elements, own_codes, entry}

-- the last of a list changed
abbrev pub with_last : {A : Type 0} → (A → A) → List A → List A
with_last f [] = []
with_last f (x ∷ []) = f x ∷ []
with_last f (x ∷ (y ∷ xs)) = x ∷ with_last f (y ∷ xs)

-- an entry with what a tag gives it
abbrev pub with_parts : FileTag → Named → Named
with_parts t n = record n { object = record n.object { elements = n.object.elements ++ own_elements t; codes = n.object.codes ++ own_codes t } }

-- the objects behind one more tag
abbrev pub object_step : FileTag → List Named → List Named
object_step t os = if is_entry t.part then os ++ entry (kind_at t.part) t.attributes [] ∷ [] else with_last (with_parts t) os

-- one of the tags stops
abbrev pub has_stop : (FileTag → Bool) → List FileTag → Bool
has_stop stops [] = false
has_stop stops (t ∷ ts) = if stops t then true else has_stop stops ts
