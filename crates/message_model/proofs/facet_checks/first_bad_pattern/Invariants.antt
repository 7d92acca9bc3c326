use Rattle.message_model.specs.Ready.{HasBadPattern}
use Rattle.message_model.specs.inner.FirstPlaces.{HoldsBefore}
use Rattle.message_model.proofs.facet_checks.first_bad_pattern.Given as goal

abbrev pub invariant-loop-place : goal.invariant-loop-place
invariant-loop-place l = HoldsBefore HasBadPattern l.repository.objects l.places l.place-index
