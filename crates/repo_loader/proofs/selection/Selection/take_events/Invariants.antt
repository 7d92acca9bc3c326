-- The events before the rest are read.
use Rattle.std.proofs.Common.{List, length}
use Rattle.markup.specs.Events.{Placed}
use Rattle.repo_loader.specs.inner.SelectionSteps.{HasLoaded, HaveTexts}
use Rattle.repo_loader.proofs.EventSteps.{LoadedSoFar}
use Rattle.repo_loader.proofs.selection.Selection.take_events.Given as goal

abbrev pub invariant-loop-event : goal.invariant-loop-event
invariant-loop-event l = record {
  some : (told : List Placed) × HasLoaded l.self told;
  texts : HaveTexts l.rest;
  loaded : (told : List Placed) → HasLoaded l.initial.self told → LoadedSoFar l.self told l.events l.rest;
}

abbrev pub decreases-loop-event : goal.decreases-loop-event
decreases-loop-event l = length l.rest
