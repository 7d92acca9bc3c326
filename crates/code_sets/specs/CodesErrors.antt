-- Why codes are refused.
use Rattle.std.specs.Prelude.{◌≡◌, ℕ, ◌+◌, ◌<◌, ◌≤◌, ◌⊎◌, List, length, All, Option, IfSome}
use Rattle.std.specs.Io.KnownBytes.{Consumes, IsAtEnd}
use Rattle.lexical_core.specs.Characters.{IsXmlText}
use Rattle.outside.specs.Reading.{PassesBy}
use Rattle.repo_objects.specs.Repository.{DictionaryEntry}
use Rattle.code_sets.specs.declared.record.CodeRecord.{CodeRecord}
use Rattle.code_sets.specs.declared.errors.CodesError.{CodesError}
use Rattle.code_sets.specs.declared.errors.CodesError.TheVariants.{Refused, ReadFault as Failed, Memory}
use Rattle.code_sets.specs.Codes.{ReadFault, JoinFault, codes_limit}

-- the records are refused, or there was no memory
abbrev pub RefusesRecords : List ℕ → CodesError → Type 0
RefusesRecords bytes (Refused rule number) = ReadFault bytes rule number
RefusesRecords bytes Failed = ⊥
RefusesRecords bytes Memory = Unit {0}

-- each code is a text of XML
abbrev pub AreCodes : List CodeRecord → Type 0
AreCodes lists = All (λ (r : CodeRecord). IsXmlText r.code) lists

-- a record names a code set with codes of its own
abbrev pub RefusesJoin : List CodeRecord → List DictionaryEntry → CodesError → Type 0
RefusesJoin lists entries (Refused rule number) = (rule ≡ 4) × JoinFault lists entries number
RefusesJoin lists entries Failed = ⊥
RefusesJoin lists entries Memory = Unit {0}

-- the bytes are too many, or their records are refused; that a source failed is said by its count
abbrev pub RefusesSource : List ℕ → CodesError → Type 0
RefusesSource bytes (Refused rule number) = ((codes_limit < length bytes) × (rule ≡ 5) × (number ≡ 0)) ⊎ ((length bytes ≤ codes_limit) × ReadFault bytes rule number)
RefusesSource bytes Failed = Unit {0}
RefusesSource bytes Memory = Unit {0}

-- the refusal is one of some bytes, also where the source tells none
abbrev pub IsRefusalOfBytes : CodesError → Type 0
IsRefusalOfBytes e = (bytes : List ℕ) × RefusesSource bytes e

-- The source was read to its end, and had no more bytes than the limit, or one byte was pulled beyond that.
abbrev pub AreCodesPulled : Option (List ℕ) → Option (List ℕ) → Type 0
AreCodesPulled old new = (IsAtEnd new × IfSome old (λ bytes. length bytes ≤ codes_limit)) ⊎ PassesBy old new (codes_limit + 1)

-- they are no more than the limit
abbrev pub AreFewBytes : List ℕ → Type 0
AreFewBytes bytes = length bytes ≤ codes_limit

-- How far the source was pulled where its codes are refused. Where it failed, it gave no more than the limit before.
abbrev pub PullsForRefusal : Option (List ℕ) → Option (List ℕ) → CodesError → Type 0
PullsForRefusal old new (Refused rule number) = AreCodesPulled old new
PullsForRefusal old new Failed = (taken : List ℕ) × Consumes old new taken × AreFewBytes taken
PullsForRefusal old new Memory = Unit {0}
