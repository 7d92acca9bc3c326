use Rattle.std.proofs.Common.{◌≡◌, ℕ, List, length}
use Rattle.der_model.specs.DerMessage.{der_message}
use Rattle.der_codec.specs.Decoding.{HasReadParts, IsFresh}
use Rattle.der_codec.specs.KeptPieces.{KeepsShown, StaysAlone}
use Rattle.der_codec.specs.Reserved.{IsKeeping}
use Rattle.der_codec.proofs.checker.DerChecker.end_all.Given as goal

-- no identifier octet has come, nothing else is changed, and the same bytes have been read
abbrev pub invariant-loop-ended : goal.invariant-loop-ended
invariant-loop-ended l =
    IsFresh l.self.decoder.due × (l.self.kept ≡ l.fn.self.kept) × (l.self.checks ≡ l.fn.self.checks) × (l.self.failed ≡ l.fn.self.failed)
    × ((bytes : List ℕ) → HasReadParts (der_message l.model) l.fn.self.decoder bytes → HasReadParts (der_message l.model) l.self.decoder bytes)
    × ((bytes : List ℕ) → HasReadParts (der_message l.model) l.fn.self.decoder bytes → KeepsShown (der_message l.model) l.fn.self.decoder l.fn.self.pieces bytes → KeepsShown (der_message l.model) l.self.decoder l.self.pieces bytes)
    × (IsKeeping l.fn.self l.model → IsKeeping l.self l.model) × (l.self.room ≡ l.fn.self.room) × StaysAlone l.fn.self.pieces l.self.pieces

abbrev pub decreases-loop-ended : goal.decreases-loop-ended
decreases-loop-ended l = length l.self.decoder.levels.items
