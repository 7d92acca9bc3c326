use Rattle.std.proofs.Common.{◌≡◌, ◌+◌, ◌<◌, ◌≤◌, ◌++◌, ℕ, List, length, take, drop}
use Rattle.message_model.specs.Tables.{types_of}
use Rattle.der_model.specs.DerMessage.{der_message}
use Rattle.der_codec.specs.Checked.{CheckTypes}
use Rattle.der_codec.specs.Decoding.{IsFresh}
use Rattle.der_codec.specs.inner.Runs.{RunReads}
use Rattle.der_codec.proofs.decoder.Decoder.run_on.Given as goal

-- what is not left of the piece has been read behind the bytes, and the next octet is awaited
abbrev pub invariant-loop-count : goal.invariant-loop-count
invariant-loop-count l =
    (taken : ℕ)
    × (l.rest ≡ drop taken l.piece)
    × (taken ≤ length l.piece)
    × CheckTypes (types_of l.model) l.checks
    × ((bytes : List ℕ) → RunReads (der_message l.model) l.fn.self l.fn.run bytes → RunReads (der_message l.model) l.self l.run (bytes ++ take taken l.piece))
    × (l.run.place < l.run.level.end)
    × IsFresh l.self.due
    × (taken ≡ 0 → l.self ≡ l.fn.self)
    × (l.run.place ≡ l.fn.run.place + taken)
    × (0 < length l.self.levels.items)

abbrev pub decreases-loop-count : goal.decreases-loop-count
decreases-loop-count l = length l.rest
