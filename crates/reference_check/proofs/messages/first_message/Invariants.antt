-- No message so far has the identifier.
use Rattle.std.proofs.Common.{◌≡◌, ℕ, ◌<◌, Some, false}
use Rattle.std.specs.Prelude.{slice_get}
use Rattle.std.specs.Str.{bytes_eq}
use Rattle.repo_objects.specs.declared.objects.MessageDef.{MessageDef}
use Rattle.reference_check.proofs.messages.first_message.Given as goal

abbrev pub invariant-loop-at : goal.invariant-loop-at
invariant-loop-at l = (k : ℕ) (d : MessageDef) → k < l.at → slice_get l.repository.messages k ≡ Some d → bytes_eq d.id l.id ≡ false
