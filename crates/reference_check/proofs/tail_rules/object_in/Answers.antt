-- An id names one object.
use Rattle.reference_check.proofs.FirstPlaces.{stands_at}
use Rattle.reference_check.proofs.tail_rules.object_in.Goals as goal

pub returns : goal.returns
returns c = stands_at _ _ _ (rw c.unwrap.ensures at c.object_at.ensures.entry) c.object_at.ensures.whole
