use Rattle.std.proofs.Common.{◌≡◌, length}
use Rattle.reference_check.specs.inner.FiniteSearch.{KeepsUsers}
use Rattle.reference_check.proofs.SearchAnswers.{AreListedBelow}
use Rattle.reference_check.proofs.users.add_targets.Given as goal

-- the elements so far have their user
abbrev pub invariant-loop-element : goal.invariant-loop-element
invariant-loop-element l = (length l.lists.items ≡ length l.fn.lists.items) × AreListedBelow l.repository.objects l.lists.items l.user l.elements l.element-index × KeepsUsers l.fn.lists.items l.lists.items
