use Rattle.message_model.specs.FacetRules.{HasBadFacets}
use Rattle.message_model.specs.inner.FirstPlaces.{HoldsBefore}
use Rattle.message_model.proofs.facet_checks.first_bad_facets.Given as goal

abbrev pub invariant-loop-place : goal.invariant-loop-place
invariant-loop-place l = HoldsBefore HasBadFacets l.repository.objects l.places l.place-index
