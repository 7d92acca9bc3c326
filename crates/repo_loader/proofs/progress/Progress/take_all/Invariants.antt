-- The bytes before the rest of the piece are read, and each counts.
use Rattle.std.proofs.Common.{◌≡◌, ◌+◌, ℕ, List, length}
use Rattle.markup.specs.Reading.{bytes_taken}
use Rattle.repo_loader.specs.inner.ProgressSteps.{HasReadFile}
use Rattle.repo_loader.proofs.ReadSteps.{ReadSoFar}
use Rattle.repo_loader.proofs.progress.Progress.take_all.Given as goal

abbrev pub invariant-loop-rest : goal.invariant-loop-rest
invariant-loop-rest l = record {
  some : (bytes : List ℕ) × HasReadFile l.self bytes;
  read : (bytes : List ℕ) → HasReadFile l.initial.self bytes → ReadSoFar l.self bytes l.piece l.rest;
  counted : bytes_taken l.self.reader + length l.rest ≡ bytes_taken l.initial.self.reader + length l.piece;
}

abbrev pub decreases-loop-rest : goal.decreases-loop-rest
decreases-loop-rest l = length l.rest
