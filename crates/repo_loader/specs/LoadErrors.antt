-- Why a repository is not loaded.
use Rattle.std.specs.Prelude.{◌≡◌, ℕ, List, Option, Some}
use Rattle.std.specs.Io.KnownBytes.{Consumes}
use Rattle.lexical_core.specs.declared.rule.Rule.TheVariants.{Truncated}
use Rattle.outside.specs.Pulls.{StopsSoon}
use Rattle.repo_loader.specs.declared.fault.LoadFault.{LoadFault}
use Rattle.repo_loader.specs.declared.fault.LoadError.{LoadError}
use Rattle.repo_loader.specs.declared.fault.LoadError.TheVariants.{Refused, ReadFault, Memory}
use Rattle.repo_loader.specs.Loaded.{HasLoadFault}

-- the bytes have the fault; that a source failed is said by its count
abbrev pub RefusesFile : List ℕ → LoadError → Type 0
RefusesFile bytes (Refused fault) = HasLoadFault bytes fault
RefusesFile bytes _ = Unit {0}

-- the fault is one of some bytes, also where the source tells none
abbrev pub IsFaultOfBytes : LoadError → Type 0
IsFaultOfBytes (Refused fault) = (bytes : List ℕ) × HasLoadFault bytes fault
IsFaultOfBytes _ = Unit {0}

-- the bytes have no fault but that they end too early
abbrev pub ShowsNoLoadFault : List ℕ → Type 0
ShowsNoLoadFault bytes = (fault : LoadFault) → HasLoadFault bytes fault → fault.markup ≡ Some Truncated

-- How far a source was pulled where a fault is told. Where it failed, what it gave before shows no fault.
abbrev pub PullsForFault : Option (List ℕ) → Option (List ℕ) → LoadError → Type 0
PullsForFault old new (Refused fault) = StopsSoon ShowsNoLoadFault old new
PullsForFault old new ReadFault = (taken : List ℕ) × Consumes old new taken × ShowsNoLoadFault taken
PullsForFault old new Memory = Unit {0}
