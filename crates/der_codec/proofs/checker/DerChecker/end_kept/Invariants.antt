use Rattle.std.proofs.Common.{◌≡◌, ◌<◌, ℕ, List, length}
use Rattle.der_codec.specs.inner.KeptRuns.{RunKeeps, StaysInRun}
use Rattle.der_codec.proofs.checker.DerChecker.end_kept.Given as goal

-- nothing else is changed, and the same bytes have been read
abbrev pub invariant-loop-ends : goal.invariant-loop-ends
invariant-loop-ends l =
    ((bytes : List ℕ) → RunKeeps l.model l.fn.self l.fn.run bytes → RunKeeps l.model l.self l.run bytes)
    × (l.run.place ≡ l.fn.run.place)
    × (0 < length l.self.decoder.levels.items)
    × (l.self.checks ≡ l.fn.self.checks)
    × StaysInRun l.model l.fn.self l.self

abbrev pub decreases-loop-ends : goal.decreases-loop-ends
decreases-loop-ends l = length l.self.decoder.levels.items
