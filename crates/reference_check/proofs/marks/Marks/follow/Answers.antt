-- Each turn follows the last object that waits; at the end none does.
use Rattle.std.proofs.Common.{◌≡◌, ◌∙◌, [], arith, subst}
use Rattle.std.proofs.lemmas.List.{nil_from_length}
use Rattle.reference_check.specs.Graph.{message}
use Rattle.reference_check.specs.inner.Marking.{AreMarks}
use Rattle.reference_check.proofs.Marking.{popped, leads_on}
use Rattle.reference_check.proofs.marks.Marks.follow.Goals as goal

pub loop-at-preserved : goal.loop-at-preserved
loop-at-preserved c =
    let R = c.args.repository.now in (
      c.in_ok-visit.ensures.grows.long ∙ c.loop-at.invariant.0,
      λ m start leads.
          let before = c.loop-at.invariant.1 m start leads in
          let p = popped R m c.loop-at.self.marked.items c.loop-at.self.waiting.items c.pop.new.self.items c.in-Some.at c.in-Some.ensures.items before.0 in
          (c.in_ok-visit.ensures.closed m p.0 p.1, leads_on R m message c.in_ok-visit.ensures.grows before.1),
    )

pub returns-clause-marks : goal.returns-clause-marks
returns-clause-marks c = λ m start leads.
    let before = c.loop-at.invariant.1 m start leads in
    let empty : c.loop-at.self.waiting.items ≡ [] = nil_from_length c.loop-at.self.waiting.items (let h = c.in_default.ensures.cases in omega arith) in
    (subst (λ l. AreMarks c.args.repository.now m [] c.loop-at.self.marked.items l) empty before.0, before.1)
