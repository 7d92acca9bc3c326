-- What follows of the definitions.
use Rattle.std.specs.Prelude.{◌≡◌, Contains}
use Rattle.repo_objects.specs.Repository.{DictionaryEntry, Contents, IsRepository}

-- an id names no other object
abbrev pub NamesOneObject : Type 0
NamesOneObject = (contents : Contents) (one other : DictionaryEntry) → IsRepository contents → Contains contents.objects one → Contains contents.objects other
    → one.id ≡ other.id → one ≡ other
