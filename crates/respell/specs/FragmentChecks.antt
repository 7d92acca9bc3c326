-- What a check of a fragment has taken, and what it holds. Callers know these by the contracts alone.
use Rattle.std.specs.Prelude.{◌≡◌, ◌<◌, ◌^◌, ◌+◌, ℕ, List, [], ◌++◌, length, Option, Some, None}
use Rattle.markup.specs.Reading.{open_token_held, token_length}
use Rattle.respell.specs.inner.FragmentReading.{HasReadAll, IsFragment}
use Rattle.respell.specs.declared.fragment_reader.FragmentReader.{FragmentReader}
use Rattle.respell.specs.declared.fragment_check.FragmentCheck.{FragmentCheck}

-- The reader has read the bytes, of which these wait to be compared; where there is none, no fragment begins with them, and none waits.
abbrev pub IsReadBy : Option FragmentReader → List ℕ → List ℕ → Type 0
IsReadBy (Some reader) waiting bytes = HasReadAll reader waiting bytes
IsReadBy None waiting bytes = (waiting ≡ []) × ((behind : List ℕ) → IsFragment (bytes ++ behind) → ⊥)

-- These bytes have come.
pub record HasTakenBytes (check : FragmentCheck) (bytes : List ℕ) : Type 0 where
  pub place : check.place ≡ length bytes
  pub short : length bytes < 2 ^ 40
  pub read : IsReadBy check.reading check.waiting.items bytes

-- how many bytes a reader holds of the names and values of its open tag
abbrev pub names_held : Option FragmentReader → ℕ
names_held (Some reader) = open_token_held reader.reader
names_held None = 0

-- How many bytes the check holds: those of the open tag, and those of its names and values.
unfoldable pub fragment_held : FragmentCheck → ℕ
fragment_held check = length check.waiting.items + names_held check.reading

-- how many bytes the reader's open token has
abbrev pub reader_open : Option FragmentReader → ℕ
reader_open (Some reader) = token_length reader.reader
reader_open None = 0

-- How many bytes have come of a token of XML that has not ended: a tag, a reference or a character.
unfoldable pub open_token_length : FragmentCheck → ℕ
open_token_length check = reader_open check.reading
