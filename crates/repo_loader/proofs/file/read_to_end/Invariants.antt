-- No pull failed, and what was taken is read.
use Rattle.std.proofs.Common.{◌≡◌, ◌<◌, ◌≤◌, length, IsTrue}
use Rattle.outside.specs.Pulls.{pull_limit}
use Rattle.repo_loader.specs.inner.ProgressSteps.{HasReadWithRoom}
use Rattle.repo_loader.proofs.file.read_to_end.Given as goal

abbrev pub invariant-loop-count : goal.invariant-loop-count
invariant-loop-count g l = record {
  same : g.R.Source.faults l.source ≡ g.R.Source.faults l.fn.source;
  some : 0 < length l.piece;
  few : length l.piece ≤ pull_limit;
  unended : IsTrue (g.R.Source.may_be_pulled l.source);
  so_far : HasReadWithRoom (g.R.Source.left l.fn.source) (g.R.Source.left l.source) l.room l.progress;
}

-- the bytes that may still come
abbrev pub decreases-loop-count : goal.decreases-loop-count
decreases-loop-count g l = l.room
