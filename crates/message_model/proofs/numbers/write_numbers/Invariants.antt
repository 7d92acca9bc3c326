use Rattle.std.proofs.Common.{◌≡◌, ℕ, ◌+◌, ◌<◌, Some}
use Rattle.std.specs.Prelude.{slice_get}
use Rattle.message_model.proofs.numbers.write_numbers.Given as goal

-- those before are numbered
abbrev pub invariant-loop-at : goal.invariant-loop-at
invariant-loop-at l = (i k : ℕ) → i < l.at → slice_get l.places i ≡ Some k → slice_get l.numbers k ≡ Some (i + 2)
