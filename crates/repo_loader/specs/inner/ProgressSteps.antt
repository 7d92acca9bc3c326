-- How far the bytes of a repository file are read.
use Rattle.std.specs.Prelude.{◌≡◌, ◌⊎◌, ℕ, Bool, true, nat_lt, ◌+◌, ◌<◌, ◌≤◌, List, [], ◌++◌, length, take, Option, Some, None, IfSome}
use Rattle.std.specs.Io.KnownBytes.{Consumes}
use Rattle.markup.specs.Events.{Placed}
use Rattle.markup.specs.Reading.{HasTaken, IsWholly, bytes_taken}
use Rattle.markup.specs.declared.reader.MarkFault.{MarkFault as Told}
use Rattle.repo_loader.specs.declared.fault.LoadFault.{LoadFault}
use Rattle.repo_loader.specs.declared.progress.Progress.{Progress}
use Rattle.repo_loader.specs.declared.progress.Front.{Front}
use Rattle.repo_loader.specs.declared.progress.Front.TheVariants.{Read, Breaks}
use Rattle.repo_loader.specs.Selected.{event_tags}
use Rattle.repo_loader.specs.FileFaults.{AreSoundTags}
use Rattle.repo_loader.specs.Loaded.{file_limit, HasLoadFault}
use Rattle.repo_loader.specs.inner.SelectionSteps.{HasLoaded, IsBrokenBy}

-- the fault of a file whose markup has this one
abbrev pub markup_fault : Told → LoadFault
markup_fault fault = record { rule = 1; markup = Some fault.rule; place = fault.place }

-- These bytes are read, and what their events say.
pub record HasReadFile (p : Progress) (bytes : List ℕ) : Type 0 where
  pub told : List Placed
  pub given : HasTaken p.reader bytes told
  pub counted : bytes_taken p.reader ≡ length bytes
  pub loaded : HasLoaded p.selection told
  pub none : p.events ≡ []

-- of these events an element breaks a rule, or else the fault is that of markup
abbrev pub TellsFault : List Placed → Told → LoadFault → Type 0
TellsFault told mark fault = IsBrokenBy told fault ⊎ (AreSoundTags [] (event_tags [] told) × (fault ≡ markup_fault mark))

-- Whatever follows the bytes, this fault is their first.
abbrev pub ShowsLoadFault : List ℕ → LoadFault → Type 0
ShowsLoadFault bytes fault = (behind : List ℕ) → length bytes ≤ file_limit → HasLoadFault (bytes ++ behind) fault

-- what was read of more bytes: they are read, or they have a fault
abbrev pub ReadsOn : Progress → List ℕ → Option LoadFault → Type 0
ReadsOn p bytes None = HasReadFile p bytes
ReadsOn p bytes (Some fault) = ShowsLoadFault bytes fault

-- what was read of the front of a piece behind the bytes
abbrev pub ReadsFront : Progress → List ℕ → List ℕ → Front → Type 0
ReadsFront p bytes piece (Read n) = HasReadFile p (bytes ++ take n piece)
ReadsFront p bytes piece (Breaks fault) = ShowsLoadFault (bytes ++ piece) fault

-- that are so many bytes of it, if no fault is shown
abbrev pub TakesFront : Progress → Progress → List ℕ → Front → Type 0
TakesFront old new piece (Read n) = (n ≤ length piece) × (bytes_taken new.reader ≡ bytes_taken old.reader + n)
TakesFront old new piece (Breaks fault) = Unit {0}

-- that are some bytes, or a fault is shown
abbrev pub is_front : Front → Bool
is_front (Read n) = nat_lt 0 n
is_front (Breaks fault) = true

-- that are some bytes, if no fault is shown, and so many more are taken
abbrev pub TakesSome : Progress → Progress → List ℕ → Front → Type 0
TakesSome old new piece (Read n) = (0 < n) × (n ≤ length piece) × (bytes_taken new.reader ≡ bytes_taken old.reader + n)
TakesSome old new piece (Breaks fault) = Unit {0}

-- The bytes are whole, and what they say is read.
pub record HasWhole (p : Progress) (bytes : List ℕ) : Type 0 where
  pub told : List Placed
  pub loaded : HasLoaded p.selection told
  pub wholly : IsWholly bytes told

-- what the end of the bytes shows
abbrev pub FileEndsAs : Progress → List ℕ → Option LoadFault → Type 0
FileEndsAs p bytes None = HasWhole p bytes
FileEndsAs p bytes (Some fault) = length bytes ≤ file_limit → HasLoadFault bytes fault

-- Bytes were taken, room more may still be, and they are read.
pub record HasReadWithRoom (old now : Option (List ℕ)) (room : ℕ) (p : Progress) : Type 0 where
  pub taken_are : List ℕ
  pub front : Consumes old now taken_are
  pub counted : length taken_are + room ≡ file_limit
  pub read : HasReadFile p taken_are

-- All bytes that a source had left are read: they are whole, and no more than the limit.
pub record HasAll (left : Option (List ℕ)) (p : Progress) : Type 0 where
  pub bytes : List ℕ
  pub all : IfSome left (λ known. known ≡ bytes)
  pub short : length bytes ≤ file_limit
  pub whole : HasWhole p bytes
