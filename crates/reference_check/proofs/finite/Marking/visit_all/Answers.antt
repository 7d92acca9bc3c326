use Rattle.std.proofs.Common.{ℕ, ◌+◌, ◌≤◌, List, length, drop, subst, arith}
use Rattle.std.proofs.Math.ListN.{drop_of_length-le}
use Rattle.std.proofs.lemmas.List.{drop_more}
use Rattle.reference_check.specs.inner.FiniteSearch.{IsSearch, open_marks}
use Rattle.reference_check.proofs.finite.Marking.visit_all.Goals as goal

pub loop-place-preserved : goal.loop-place-preserved
loop-place-preserved c = (
  (λ m s. c.in_ok-visit.ensures.search m (drop (c.loop-place.place-index + 1) c.args.places.now)
      (subst (λ (x : List ℕ). IsSearch c.args.repository.now m c.loop-place.self.marks.items c.loop-place.self.untold.items x) (drop_more c.args.places.now c.loop-place.place-index 0 (omega arith)) (c.loop-place.invariant.0 m s))),
  (let before : open_marks c.loop-place.self.marks.items + length c.loop-place.self.untold.items ≤ open_marks c.args.self.now.marks.items + length c.args.self.now.untold.items = c.loop-place.invariant.1 in
      let now : open_marks c.visit.new.self.marks.items + length c.visit.new.self.untold.items ≤ open_marks c.loop-place.self.marks.items + length c.loop-place.self.untold.items = c.in_ok-visit.ensures.left in
      omega arith),
)

pub returns-clause-search : goal.returns-clause-search
returns-clause-search c m s =
    subst (λ (x : List ℕ). IsSearch c.args.repository.now m c.loop-place.self.marks.items c.loop-place.self.untold.items x) (drop_of_length-le c.args.places.now (omega arith)) (c.loop-place.invariant.0 m s)
