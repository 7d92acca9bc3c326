-- External codes: the records of comma-separated values, the rules that they break, and what they add to a repository.
use Rattle.std.specs.Prelude.{◌≡◌, ◌≢◌, ℕ, suc, ◌+◌, ◌<◌, ◌≤◌, Bool, ◌&&◌, not, true, false, IsTrue, List, [], ◌∷◌, ◌++◌, length, map, Some, if◌then◌else◌}
use Rattle.std.specs.List.{list_any}
use Rattle.std.specs.Str.{bytes_eq}
use Rattle.csv.specs.Reading.{AreRecords, Reached, default_config, strip_bom}
use Rattle.csv.specs.declared.parser.State.{State}
use Rattle.csv.specs.Records.{AllText}
use Rattle.csv.specs.declared.parser.State.TheVariants as st
use Rattle.lexical_core.specs.Characters.{IsXmlText}
use Rattle.repo_objects.specs.declared.objects.CodeDef.{CodeDef}
use Rattle.repo_objects.specs.declared.objects.ObjectKind.{ObjectKind}
use Rattle.repo_objects.specs.declared.objects.ObjectKind.TheVariants.{Simple}
use Rattle.repo_objects.specs.declared.objects.Kinds.TheVariants.{CodeSet}
use Rattle.repo_objects.specs.Repository.{DictionaryEntry, Contents, entry_with_codes}
use Rattle.code_sets.specs.declared.record.CodeRecord.{CodeRecord}

-- ---- the records

-- a record: its fields
abbrev pub Fields : Type 0
Fields = List (List ℕ)

-- the records of the bytes, as `csv` reads them with no header; a byte order mark at their start is dropped
abbrev pub HasRecords : List ℕ → List Fields → Type 0
HasRecords bytes rows = AreRecords default_config st.StartRecord (strip_bom bytes) rows

-- a code is not empty, and has characters of XML alone
abbrev pub IsCode : List ℕ → Type 0
IsCode code = (code ≢ []) × IsXmlText code

-- the second of two fields is a code
abbrev pub HasCode : Fields → Type 0
HasCode (set ∷ code ∷ []) = IsCode code
HasCode _ = ⊥

-- a rule of its number that a record breaks: it has not two fields; one is no UTF-8; the code is none
pub data BreaksRecordRule (fields : Fields) (rule : ℕ) : Type 0 where
  not_two : (length fields ≡ 2 → ⊥) → rule ≡ 1 → BreaksRecordRule fields rule
  no_text : (AllText fields → ⊥) → rule ≡ 2 → BreaksRecordRule fields rule
  no_code : length fields ≡ 2 → (HasCode fields → ⊥) → rule ≡ 3 → BreaksRecordRule fields rule

-- the record breaks no rule
abbrev pub IsSoundRecord : Fields → Type 0
IsSoundRecord fields = (rule : ℕ) → BreaksRecordRule fields rule → ⊥

-- the rule is the least that it breaks
abbrev pub IsLeastRecordRule : Fields → ℕ → Type 0
IsLeastRecordRule fields rule = BreaksRecordRule fields rule × ((other : ℕ) → BreaksRecordRule fields other → rule ≤ other)

-- the records break no rule
abbrev pub AreSoundRecords : List Fields → Type 0
AreSoundRecords [] = Unit {0}
AreSoundRecords (fields ∷ rows) = IsSoundRecord fields × AreSoundRecords rows

-- the records as codes, numbered from this number on
abbrev pub numbered_records : ℕ → List Fields → List CodeRecord
numbered_records n [] = []
numbered_records n ((set ∷ code ∷ []) ∷ rows) = record { number = n; set = set; code = code } ∷ numbered_records (suc n) rows
numbered_records n (fields ∷ rows) = numbered_records (suc n) rows

-- the bytes are records that break no rule, and say these codes
abbrev pub ReadsCodes : List ℕ → List CodeRecord → Type 0
ReadsCodes bytes lists = (rows : List Fields) × HasRecords bytes rows × AreSoundRecords rows × (lists ≡ numbered_records 1 rows)

-- the records at the front of the bytes
abbrev pub HasFront : List ℕ → List Fields → Type 0
HasFront bytes rows = (s : State) × (rest : List ℕ) × Reached default_config st.StartRecord (strip_bom bytes) rows s rest

-- the first record that breaks a rule has this number, and the rule is the least that it breaks
pub record ReadFault (bytes : List ℕ) (rule number : ℕ) : Type 0 where
  pub before : List Fields
  pub fields : Fields
  pub front : HasFront bytes (before ++ fields ∷ [])
  pub sound : AreSoundRecords before
  pub broken : IsLeastRecordRule fields rule
  pub number_is : number ≡ length before + 1

-- ---- the repository that they make

-- the object is a code set
abbrev pub is_code_set : ObjectKind → Bool
is_code_set (Simple CodeSet) = true
is_code_set _ = false

abbrev pub is_none_yet : List CodeDef → Bool
is_none_yet [] = true
is_none_yet (code ∷ more) = false

-- a code set of this name with codes of its own
abbrev pub has_own_codes : List ℕ → DictionaryEntry → Bool
has_own_codes name e = is_code_set e.object.kind && not (is_none_yet e.object.codes) && bytes_eq e.object.name name

-- the record names one
abbrev pub is_taken : List DictionaryEntry → CodeRecord → Bool
is_taken entries r = list_any (has_own_codes r.set) entries

-- the codes that are given to a code set of this name
abbrev pub codes_for : List ℕ → List CodeRecord → List (List ℕ)
codes_for name [] = []
codes_for name (r ∷ rs) = if bytes_eq r.set name then r.code ∷ codes_for name rs else codes_for name rs

-- each once, at its first place; those seen before are none of them
abbrev pub once : List (List ℕ) → List (List ℕ) → List (List ℕ)
once seen [] = []
once seen (c ∷ cs) = if list_any (bytes_eq c) seen then once seen cs else c ∷ once (c ∷ seen) cs

-- a code with its name as its text
abbrev pub code_of : List ℕ → CodeDef
code_of text = record { name = text; code = Some text }

-- an entry with the codes that are given to it
abbrev pub joined_entry : List CodeRecord → DictionaryEntry → DictionaryEntry
joined_entry lists e = if is_code_set e.object.kind && is_none_yet e.object.codes then entry_with_codes (map code_of (once [] (codes_for e.object.name lists))) e else e

-- the repository with them; set names that no code set has count for nothing
abbrev pub joined_contents : List CodeRecord → Contents → Contents
joined_contents lists contents = record contents { objects = map (joined_entry lists) contents.objects }

-- no record names a code set with codes of its own
abbrev pub JoinsAll : List CodeRecord → List DictionaryEntry → Type 0
JoinsAll lists entries = IsTrue (not (list_any (is_taken entries) lists))

-- the first record that names one has this number
pub record JoinFault (lists : List CodeRecord) (entries : List DictionaryEntry) (number : ℕ) : Type 0 where
  pub before : List CodeRecord
  pub first : CodeRecord
  pub after : List CodeRecord
  pub split : lists ≡ before ++ first ∷ after
  pub none : JoinsAll before entries
  pub taken : is_taken entries first ≡ true
  pub number_is : number ≡ first.number

-- ---- both

-- how many bytes external codes have at most
abbrev pub codes_limit : ℕ
codes_limit = 268435456

-- a rule and the number of the record, 0 where it is of no record
pub record CodesFault : Type 0 where
  pub rule : ℕ
  pub number : ℕ

-- The bytes have this fault: there are too many; a record breaks one of the first three rules; a record names a code set with codes of its own.
pub data HasCodesFault (contents : Contents) (bytes : List ℕ) (fault : CodesFault) : Type 0 where
  long : codes_limit < length bytes → fault ≡ record { rule = 5; number = 0 } → HasCodesFault contents bytes fault
  reading : length bytes ≤ codes_limit → ReadFault bytes fault.rule fault.number → HasCodesFault contents bytes fault
  joining : length bytes ≤ codes_limit → (lists : List CodeRecord) → ReadsCodes bytes lists → JoinFault lists contents.objects fault.number → fault.rule ≡ 4 → HasCodesFault contents bytes fault

-- the codes that the bytes say make this of the repository
pub record Joins (contents : Contents) (bytes : List ℕ) (new : Contents) : Type 0 where
  pub short : length bytes ≤ codes_limit
  pub lists : List CodeRecord
  pub reads : ReadsCodes bytes lists
  pub none : JoinsAll lists contents.objects
  pub new_is : new ≡ joined_contents lists contents
