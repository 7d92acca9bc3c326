-- The ids that the element names are those of its three references.
use Rattle.std.proofs.Common.{◌++◌, subst}
use Rattle.std.proofs.lemmas.Result.{on_ok_weaker}
use Rattle.reference_check.specs.Graph.{given_id}
use Rattle.reference_check.specs.inner.Marking.{Adds}
use Rattle.reference_check.proofs.Marking.{adds_append}
use Rattle.reference_check.proofs.marks.Marks.mark_references.Goals as goal

pub returns : goal.returns
returns c =
    let R = c.args.repository.now in
    let e = c.args.element.now in
    let a = subst (λ o. Adds R (given_id o) c.args.self.now c.mark_given.new.self) c.as_ref.ensures.value c.in_ok-mark_given.ensures in
    let b = subst (λ o. Adds R (given_id o) c.mark_given.new.self c.mark_given-2.new.self) c.as_ref-2.ensures.value c.in_ok-mark_given-2.ensures in
    on_ok_weaker c.mark_given-3.result
    (λ h. adds_append R (given_id e.simple ++ given_id e.complex) (given_id e.plain) c.args.self.now c.mark_given-2.new.self c.mark_given-3.new.self
    (adds_append R (given_id e.simple) (given_id e.complex) c.args.self.now c.mark_given.new.self c.mark_given-2.new.self a b)
    (subst (λ o. Adds R (given_id o) c.mark_given-2.new.self c.mark_given-3.new.self) c.as_ref-3.ensures.value h))
    c.mark_given-3.ensures
