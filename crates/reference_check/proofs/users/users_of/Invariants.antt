use Rattle.std.proofs.Common.{◌≡◌, length, take}
use Rattle.reference_check.specs.inner.FiniteSearch.{AreListed}
use Rattle.reference_check.proofs.users.users_of.Given as goal

-- the objects so far are users of what their elements lead to
abbrev pub invariant-loop-place : goal.invariant-loop-place
invariant-loop-place l = (length l.lists.items ≡ length l.repository.objects) × AreListed l.repository.objects l.lists.items (take l.place-index l.places)
