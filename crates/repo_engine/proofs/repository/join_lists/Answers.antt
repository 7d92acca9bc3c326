use Rattle.repo_engine.proofs.Readings.{join_refuses, join_stops}
use Rattle.repo_engine.proofs.Pulls.{read_codes_stop}
use Rattle.repo_engine.proofs.repository.join_lists.Goals as goal

pub returns-in-Ok-clause-gives : goal.returns-in-Ok-clause-gives
returns-in-Ok-clause-gives c bytes told = record {
  short = told.0;
  lists = c.args.lists.now;
  reads = told.1;
  none = c.in-Ok.ensures.none;
  new_is = c.in-Ok.ensures.ok;
}

pub returns-in-Err-clause-refuses : goal.returns-in-Err-clause-refuses
returns-in-Err-clause-refuses c bytes told = rw c.stop_of_codes.ensures (join_refuses _ bytes _ _ told c.in-Err.ensures.err)

pub returns-in-Err-clause-stops : goal.returns-in-Err-clause-stops
returns-in-Err-clause-stops c = rw c.stop_of_codes.ensures (join_stops _ _ _ c.in-Err.ensures.err)

pub returns-in-Err-clause-pulled : goal.returns-in-Err-clause-pulled
returns-in-Err-clause-pulled c codes codes' p = rw c.stop_of_codes.ensures (read_codes_stop codes codes' p _ _ _ c.in-Err.ensures.err)
