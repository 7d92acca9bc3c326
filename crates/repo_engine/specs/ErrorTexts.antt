-- How a status is written.
use Rattle.std.specs.Prelude.{ℕ, List, codes}
use Rattle.repo_engine.specs.declared.status.Status.{Status}
use Rattle.repo_engine.specs.declared.status.Status.TheVariants as status

-- the line of a stop as far as its status tells it
abbrev pub status_text : Status → List ℕ
status_text status.Done = codes "done"
status_text status.Words = codes "refused: words"
status_text status.Repository = codes "refused: repository"
status_text status.Codes = codes "refused: codes"
status_text status.Message = codes "refused: message"
status_text status.Instance = codes "refused: instance"
status_text status.ReadFault = codes "failed: read"
status_text status.WriteFault = codes "failed: write"
status_text status.Memory = codes "failed: memory"
