-- One mark more.
use Rattle.std.proofs.Common.{◌∙◌, ◌+◌, subst, sym}
use Rattle.reference_check.proofs.MarkedPlaces.{ArePlaces, place_more, place_not}
use Rattle.reference_check.proofs.search.marked_places.Goals as goal
use Rattle.reference_check.proofs.search.marked_places.Goals.{then-is_marked+in_ok-push, else-is_marked}

pub loop-at-preserved : goal.loop-at-preserved
loop-at-preserved c =
    elim c.if-is_marked.branch [
      | then-is_marked+in_ok-push w ↦
          subst (λ l. ArePlaces (c.loop-at.at + 1) c.args.marked.now l) (sym (w.places-is ∙ w.in_ok-push.ensures.ok))
          (place_more c.loop-at.at c.args.marked.now c.loop-at.places c.loop-at.invariant w.if-is_marked.true)
      | else-is_marked w ↦
          subst (λ l. ArePlaces (c.loop-at.at + 1) c.args.marked.now l) (sym w.places-is)
          (place_not c.loop-at.at c.args.marked.now c.loop-at.places c.loop-at.invariant w.if-is_marked.false)
    ]
