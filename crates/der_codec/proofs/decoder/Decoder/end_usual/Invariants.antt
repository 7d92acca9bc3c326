use Rattle.std.proofs.Common.{◌≡◌, ◌<◌, ℕ, List, length}
use Rattle.der_model.specs.DerMessage.{der_message}
use Rattle.der_codec.specs.inner.Runs.{RunReads}
use Rattle.der_codec.proofs.decoder.Decoder.end_usual.Given as goal

-- no identifier octet has come, and the same bytes have been read
abbrev pub invariant-loop-ends : goal.invariant-loop-ends
invariant-loop-ends l =
    (l.self.due ≡ l.fn.self.due)
    × ((bytes : List ℕ) → RunReads (der_message l.model) l.fn.self l.fn.run bytes → RunReads (der_message l.model) l.self l.run bytes)
    × (l.run.place ≡ l.fn.run.place)
    × (0 < length l.self.levels.items)

abbrev pub decreases-loop-ends : goal.decreases-loop-ends
decreases-loop-ends l = length l.self.levels.items
