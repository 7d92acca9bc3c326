-- One element more.
use Rattle.std.proofs.Common.{arith, sym, subst, ◌∙◌}
use Rattle.std.specs.List.{flat_map}
use Rattle.std.proofs.lemmas.List.{take_all}
use Rattle.reference_check.specs.Graph.{references}
use Rattle.reference_check.specs.inner.Marking.{Adds}
use Rattle.reference_check.proofs.Marking.{adds_nothing, adds_more}
use Rattle.reference_check.proofs.marks.Marks.mark_elements.Goals as goal

pub loop-element-init : goal.loop-element-init
loop-element-init c = adds_nothing c.args.repository.now c.args.self.now

pub mark_references-requires : goal.mark_references-requires
mark_references-requires c = c.loop-element.invariant.grows.long ∙ c.requires

pub loop-element-preserved : goal.loop-element-preserved
loop-element-preserved c =
    adds_more c.args.repository.now c.args.elements.now c.loop-element.element-index c.element-item.result (omega arith) (sym c.element-item.is)
    c.args.self.now c.loop-element.self c.mark_references.new.self c.loop-element.invariant c.in_ok-mark_references.ensures

pub returns : goal.returns
returns c = subst (λ es. Adds c.args.repository.now (flat_map references es) c.args.self.now c.loop-element.self) (take_all c.loop-element.element-index c.args.elements.now (omega arith)) c.loop-element.invariant
