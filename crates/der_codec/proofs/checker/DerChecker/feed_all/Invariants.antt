use Rattle.std.proofs.Common.{◌≡◌, List, ℕ, length}
use Rattle.message_model.specs.Tables.{types_of}
use Rattle.der_codec.specs.Checked.{CheckTypes}
use Rattle.der_codec.specs.Checking.{HasFedDer}
use Rattle.der_codec.specs.KeptPieces.{StaysAlone}
use Rattle.der_codec.specs.Reserved.{IsKeeping}
use Rattle.der_codec.proofs.Fed.{GivenSoFar}
use Rattle.der_codec.proofs.checker.DerChecker.feed_all.Given as goal

abbrev pub invariant-loop-rest : goal.invariant-loop-rest
invariant-loop-rest l = CheckTypes (types_of l.model) l.self.checks × ((bytes : List ℕ) → HasFedDer l.initial.self l.model bytes → GivenSoFar l.model l.self bytes l.piece l.rest)
    × (IsKeeping l.initial.self l.model → IsKeeping l.self l.model) × (l.self.room ≡ l.initial.self.room) × StaysAlone l.initial.self.pieces l.self.pieces

abbrev pub decreases-loop-rest : goal.decreases-loop-rest
decreases-loop-rest l = length l.rest
