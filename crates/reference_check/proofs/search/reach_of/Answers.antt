-- The marked objects are those that are reached.
use Rattle.std.proofs.Common.{ℕ, subst, Contains}
use Rattle.std.specs.Prelude.{◌↔◌}
use Rattle.reference_check.specs.inner.Marking.{IsObjectMarked}
use Rattle.reference_check.proofs.Marking.{has_reach}
use Rattle.reference_check.proofs.search.reach_of.Goals as goal

pub returns : goal.returns
returns c = λ m there first.
    let R = c.args.repository.now in
    let marked = c.in_ok-marks.marks.marked.items in
    has_reach R m c.args.at c.args.definition.now marked c.in_ok-objects.objects there first c.in_ok-marks.ensures.long (c.in_ok-marks.ensures.marks m first)
    c.in_ok-objects.ensures.rising
    (subst (λ l. (k : ℕ) → Contains c.in_ok-objects.objects k ↔ IsObjectMarked l k) c.as_slice.ensures.value c.in_ok-objects.ensures.places)
