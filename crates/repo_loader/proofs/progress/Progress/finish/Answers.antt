-- The bytes are whole, or they end too early.
use Rattle.std.proofs.Common.{subst, sym}
use Rattle.markup.specs.Reading.{EndsEarly}
use Rattle.repo_loader.specs.Loaded.{HasLoadFault}
use Rattle.repo_loader.proofs.FileVerdicts.{ends_early}
use Rattle.repo_loader.proofs.progress.Progress.finish.Goals as goal

pub returns-in-Ok : goal.returns-in-Ok
returns-in-Ok c bytes h = record { told = h.told; loaded = h.loaded; wholly = c.in-Ok.ensures.ok _ bytes h.told h.given }

pub returns-in-Err-Refused : goal.returns-in-Err-Refused
returns-in-Err-Refused c bytes h short =
    subst (HasLoadFault bytes) (sym c.fault_of_markup.ensures)
    (ends_early c.args.self.now bytes h c.in-Err-Refused.fault (subst (EndsEarly bytes) c.in-Err-Refused.field-0-is (c.in-Err-Refused.ensures.err _ bytes h.told h.given)) short)
