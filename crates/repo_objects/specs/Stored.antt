-- How the map of a repository stores its entries.
use Rattle.std.specs.Prelude.{ℕ, List, map, Vec}
use Rattle.std.specs.declared.alloc.Global.{Global}
use Rattle.repo_objects.specs.declared.objects.Object.{Object}
use Rattle.repo_objects.specs.Repository.{DictionaryEntry}

-- an entry of the map as an entry of the data dictionary
abbrev pub stored_entry : Vec ℕ Global × Object → DictionaryEntry
stored_entry stored = record { id = stored.0.items; object = stored.1 }

-- all of them, in order
abbrev pub entries_of : List (Vec ℕ Global × Object) → List DictionaryEntry
entries_of stored = map stored_entry stored
