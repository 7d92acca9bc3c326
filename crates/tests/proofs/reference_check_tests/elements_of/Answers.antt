-- One element more.
use Rattle.std.proofs.Common.{All, sym, subst}
use Rattle.std.proofs.lemmas.List.Elements.{All-push}
use Rattle.repo_objects.specs.Objects.{HasElementTexts}
use Rattle.tests.proofs.reference_check_tests.elements_of.Goals as goal

pub loop-part-preserved : goal.loop-part-preserved
loop-part-preserved c =
    subst (λ l. All HasElementTexts l) (sym c.in_ok-push.ensures.ok) (All-push HasElementTexts c.loop-part.elements c.in_ok-element_of.field-0 c.loop-part.invariant c.in_ok-element_of.ensures)
