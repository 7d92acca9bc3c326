use Rattle.std.proofs.Common.{◌≡◌, ◌+◌, ◌<◌, ◌≤◌, ◌++◌, ℕ, List, length, take, drop}
use Rattle.message_model.specs.Tables.{types_of}
use Rattle.der_codec.specs.Checked.{CheckTypes}
use Rattle.der_codec.specs.inner.KeptRuns.{RunKeeps, StaysInRun}
use Rattle.der_codec.proofs.checker.DerChecker.run_kept.Given as goal

-- what is not left of the piece has been read behind the bytes, and the next octet is awaited
abbrev pub invariant-loop-count : goal.invariant-loop-count
invariant-loop-count l =
    (taken : ℕ)
    × (l.rest ≡ drop taken l.piece)
    × (taken ≤ length l.piece)
    × CheckTypes (types_of l.model) l.self.checks
    × ((bytes : List ℕ) → RunKeeps l.model l.fn.self l.fn.run bytes → RunKeeps l.model l.self l.run (bytes ++ take taken l.piece))
    × (l.run.place < l.run.level.end)
    × (taken ≡ 0 → l.self.decoder ≡ l.fn.self.decoder)
    × (taken ≡ 0 → l.self.pieces ≡ l.fn.self.pieces)
    × (l.run.place ≡ l.fn.run.place + taken)
    × (0 < length l.self.decoder.levels.items)
    × StaysInRun l.model l.fn.self l.self

abbrev pub decreases-loop-count : goal.decreases-loop-count
decreases-loop-count l = length l.rest
