use Rattle.std.proofs.Common.{◌≡◌, ◌<◌, ◌≤◌, length, IsTrue}
use Rattle.outside.specs.Pulls.{pull_limit}
use Rattle.transcoder.specs.inner.Reading.{HasReadSource}
use Rattle.transcoder.proofs.reading.feed_all.Given as goal

-- the source did not fail, and what it gave is fed to the checker
abbrev pub invariant-loop-count : goal.invariant-loop-count
invariant-loop-count g l = record {
  steady : g.I.Source.faults l.source ≡ g.I.Source.faults l.fn.source;
  some_room : 0 < length l.piece;
  few : length l.piece ≤ pull_limit;
  unended : IsTrue (g.I.Source.may_be_pulled l.source);
  so_far : HasReadSource (λ x. g.X.Intake.has_fed x l.model) (λ x. g.X.Intake.is_made_for x l.model) (g.I.Source.left l.fn.source) (g.I.Source.left l.source) l.room l.reader;
}

-- the bytes that may still come
abbrev pub decreases-loop-count : goal.decreases-loop-count
decreases-loop-count g l = l.room
