use Rattle.std.proofs.Common.{List, subst}
use Rattle.repo_objects.specs.declared.objects.ElementDef.{ElementDef}
use Rattle.reference_check.specs.inner.FiniteSearch.{TellsBlocked}
use Rattle.reference_check.proofs.SearchAnswers.{held_component}
use Rattle.reference_check.proofs.finite.held_at.Goals as goal

pub returns-in-Component : goal.returns-in-Component
returns-in-Component c =
    held_component c.args.repository.now.objects c.args.marks.now c.args.object.now c.args.free c.first_blocked.result c.in-Component.is
    (subst (λ (x : List ElementDef). TellsBlocked c.args.repository.now.objects c.args.marks.now x c.args.free c.first_blocked.result) c.as_slice.ensures c.first_blocked.ensures)
