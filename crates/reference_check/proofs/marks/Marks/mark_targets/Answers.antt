-- The ids are those that the elements name, and that of the currencies.
use Rattle.std.proofs.Common.{subst}
use Rattle.std.specs.List.{flat_map}
use Rattle.std.proofs.lemmas.Result.{on_ok_weaker}
use Rattle.reference_check.specs.Graph.{given_id, references}
use Rattle.reference_check.specs.inner.Marking.{Adds}
use Rattle.reference_check.specs.inner.Subjects.{subject_elements, subject_currency}
use Rattle.reference_check.proofs.Marking.{adds_append}
use Rattle.reference_check.proofs.marks.Marks.mark_targets.Goals as goal

pub returns : goal.returns
returns c =
    let R = c.args.repository.now in
    let s = c.args.subject.now in
    on_ok_weaker c.mark_given.result
    (λ h. adds_append R (flat_map references (subject_elements s)) (given_id (subject_currency s)) c.args.self.now c.mark_elements.new.self c.mark_given.new.self
    (subst (λ es. Adds R (flat_map references es) c.args.self.now c.mark_elements.new.self) c.elements.ensures c.in_ok-mark_elements.ensures)
    (subst (λ o. Adds R (given_id o) c.mark_elements.new.self c.mark_given.new.self) c.currency.ensures h))
    c.mark_given.ensures
