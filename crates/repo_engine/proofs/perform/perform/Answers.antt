use Rattle.repo_engine.proofs.Performing.{asked_bounded, performs_command}
use Rattle.repo_engine.specs.inner.Commands.{command_view}
use Rattle.repo_engine.proofs.perform.perform.Goals as goal

pub returns-in-Some : goal.returns-in-Some
returns-in-Some g c = performs_command _ (command_view c.in-Some.command) _ _ _ g.O.Sink.held g.O.Sink.faults _ _ c.carry.result c.in-Some.ensures.found c.carry.ensures

pub carry-requires-clause-bounded : goal.carry-requires-clause-bounded
carry-requires-clause-bounded g c = asked_bounded _ c.in-Some.command c.in-Some.ensures.found
