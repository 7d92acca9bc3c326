-- What a run leaves of its sources: one is read after the other, each to its end before the next is touched.
use Rattle.std.specs.Prelude.{◌≡◌, ◌≢◌, ℕ, ◌≤◌, Bool, true, false, List, Option}
use Rattle.std.specs.Io.KnownBytes.{IsAtEnd}
use Rattle.std.specs.Prelude.{Result, Ok, Err}
use Rattle.outside.specs.Source.{Rose}
use Rattle.repo_engine.specs.declared.refusal.Stop.{Stop}
use Rattle.repo_engine.specs.declared.refusal.Stop.TheVariants.{Refused, ReadFault, WriteFault, Memory}

-- a source before and behind a run, with its meanings: what it has left, and its count of faults
pub record Use (S : Type 0) : Type 0 where
  pub left : S → Option (List ℕ)
  pub faults : S → ℕ
  pub old : S
  pub new : S

abbrev pub of_source : {S : Type 0} → (S → Option (List ℕ)) → (S → ℕ) → S → S → Use S
of_source left faults old new = record { left = left; faults = faults; old = old; new = new }

-- how reading ended: all was read, as also where a sink failed behind it; a refusal came; a source failed; or memory was wanted
pub data Ended : Type 0 where
  Whole : Ended
  Refusing : Ended
  Failing : Ended
  Stopping : Ended

abbrev pub stop_ended : Stop → Ended
stop_ended (Refused refusal) = Refusing
stop_ended ReadFault = Failing
stop_ended WriteFault = Whole
stop_ended Memory = Stopping

abbrev pub source_ended_of : {T : Type 0} → Result T Stop → Ended
source_ended_of (Ok value) = Whole
source_ended_of (Err stop) = stop_ended stop

-- the source was not touched
abbrev pub Untouched : {S : Type 0} → Use S → Type 0
Untouched u = u.new ≡ u.old

-- What is left of a source that was read: nothing, where all was read. Its count of faults rose where reading failed, and stays where it did not.
pub record IsSourceRead {S : Type 0} (ended : Ended) (u : Use S) : Type 0 where
  pub later : u.faults u.old ≤ u.faults u.new
  pub whole : ended ≡ Whole → IsAtEnd (u.left u.new)
  pub failed : ended ≡ Failing → Rose (u.faults u.old) (u.faults u.new)
  pub quiet : ended ≢ Failing → u.faults u.new ≡ u.faults u.old

-- The second source is read behind the whole of the first; where a command does not pull from it, not at all.
pub data AreRead {S T : Type 0} (second : Bool) (ended : Ended) (u : Use S) (v : Use T) : Type 0 where
  one : IsSourceRead ended u → Untouched v → (ended ≡ Whole → second ≡ false) → AreRead second ended u v
  both : second ≡ true → IsSourceRead Whole u → IsSourceRead ended v → AreRead second ended u v

-- The third is read behind the whole of those.
pub data AreReadInTurn {S T U : Type 0} (second third : Bool) (ended : Ended) (u : Use S) (v : Use T) (w : Use U) : Type 0 where
  before : AreRead second ended u v → Untouched w → (ended ≡ Whole → third ≡ false) → AreReadInTurn second third ended u v w
  behind : third ≡ true → AreRead second Whole u v → IsSourceRead ended w → AreReadInTurn second third ended u v w

-- No source is touched, where none is asked; and then the end is none of input.
pub data AreUsed {S T U : Type 0} (first second third : Bool) (ended : Ended) (u : Use S) (v : Use T) (w : Use U) : Type 0 where
  unused : first ≡ false → Untouched u → Untouched v → Untouched w → (ended ≢ Refusing) → (ended ≢ Failing) → AreUsed first second third ended u v w
  used : first ≡ true → AreReadInTurn second third ended u v w → AreUsed first second third ended u v w
