-- What follows of the definitions.
use Rattle.std.specs.Prelude.{◌≡◌, ℕ, ◌⊎◌, List}
use Rattle.repo_objects.specs.Repository.{Contents, IsRepository}
use Rattle.code_sets.specs.declared.record.CodeRecord.{CodeRecord}
use Rattle.code_sets.specs.Codes.{CodesFault, HasCodesFault, Joins, ReadsCodes, ReadFault}

-- ---- the records of bytes

-- Bytes say one list of codes.
abbrev pub OneReading : Type 0
OneReading = (bytes : List ℕ) (a b : List CodeRecord) → ReadsCodes bytes a → ReadsCodes bytes b → a ≡ b

-- They have one first fault.
abbrev pub OneReadFault : Type 0
OneReadFault = (bytes : List ℕ) (r s m n : ℕ) → ReadFault bytes r m → ReadFault bytes s n → (r ≡ s) × (m ≡ n)

-- And none where they say codes.
abbrev pub ReadHasNone : Type 0
ReadHasNone = (bytes : List ℕ) (lists : List CodeRecord) (r n : ℕ) → ReadsCodes bytes lists → ReadFault bytes r n → ⊥

-- All bytes say codes or have a fault.
abbrev pub ReadsOrHasFault : Type 0
ReadsOrHasFault = (bytes : List ℕ) → ((lists : List CodeRecord) × ReadsCodes bytes lists) ⊎ ((rule : ℕ) × (number : ℕ) × ReadFault bytes rule number)

-- ---- bytes and a repository

-- They make one repository.
abbrev pub OneJoined : Type 0
OneJoined = (contents : Contents) (bytes : List ℕ) (a b : Contents) → Joins contents bytes a → Joins contents bytes b → a ≡ b

-- They have one first fault.
abbrev pub OneCodesFault : Type 0
OneCodesFault = (contents : Contents) (bytes : List ℕ) (f g : CodesFault) → HasCodesFault contents bytes f → HasCodesFault contents bytes g → f ≡ g

-- And none where they make a repository.
abbrev pub JoinedHasNone : Type 0
JoinedHasNone = (contents : Contents) (bytes : List ℕ) (new : Contents) (fault : CodesFault) → Joins contents bytes new → HasCodesFault contents bytes fault → ⊥

-- All bytes make a repository or have a fault.
abbrev pub JoinsOrHasFault : Type 0
JoinsOrHasFault = (contents : Contents) (bytes : List ℕ) → ((new : Contents) × Joins contents bytes new) ⊎ ((fault : CodesFault) × HasCodesFault contents bytes fault)

-- What they make of a repository is one: no two objects have one id, and all texts are UTF-8 of characters of XML.
abbrev pub JoinedIsARepository : Type 0
JoinedIsARepository = (contents : Contents) (bytes : List ℕ) (new : Contents) → IsRepository contents → Joins contents bytes new → IsRepository new
