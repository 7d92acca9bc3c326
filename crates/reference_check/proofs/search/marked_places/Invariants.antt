-- The marked places so far.
use Rattle.reference_check.proofs.MarkedPlaces.{ArePlaces}
use Rattle.reference_check.proofs.search.marked_places.Given as goal

abbrev pub invariant-loop-at : goal.invariant-loop-at
invariant-loop-at l = ArePlaces l.at l.marked l.places
