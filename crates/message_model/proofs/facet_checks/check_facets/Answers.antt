use Rattle.std.proofs.Common.{Some, None, subst}
use Rattle.message_model.specs.FacetRules.{HasBadFacets}
use Rattle.message_model.specs.Ready.{HasBadPattern}
use Rattle.message_model.specs.inner.FirstPlaces.{TellsPlace}
use Rattle.message_model.proofs.Refused.{facets_refused, pattern_refused, facets_good}
use Rattle.message_model.proofs.facet_checks.check_facets.Goals as goal

pub returns-in-Some-clause-refused : goal.returns-in-Some-clause-refused
returns-in-Some-clause-refused c m is =
    facets_refused c.args.repository.now m c.object_count-count.ensures.whole c.args.reach.now is c.in-Some.place c.broken.result
    (subst (λ places. TellsPlace HasBadFacets c.args.repository.now.objects places (Some c.in-Some.place)) c.as_slice-places.ensures c.in-Some.ensures) c.broken.ensures

pub returns-in-Ok-None-clause-good : goal.returns-in-Ok-None-clause-good
returns-in-Ok-None-clause-good c m is =
    facets_good c.args.repository.now m c.object_count-count.ensures.whole c.args.reach.now is
    (subst (λ places. TellsPlace HasBadFacets c.args.repository.now.objects places None) c.as_slice-places.ensures (rw c.in_default.is at c.first_bad_facets.ensures))
    (subst (λ places. TellsPlace HasBadPattern c.args.repository.now.objects places None) c.as_slice-places.ensures (rw c.in-Ok-None.field-0-is at c.in-Ok-None.ensures))

pub returns-in-Ok-Some-clause-refused : goal.returns-in-Ok-Some-clause-refused
returns-in-Ok-Some-clause-refused c m is =
    pattern_refused c.args.repository.now m c.object_count-count.ensures.whole c.args.reach.now is
    (subst (λ places. TellsPlace HasBadFacets c.args.repository.now.objects places None) c.as_slice-places.ensures (rw c.in_default.is at c.first_bad_facets.ensures))
    c.in-Ok-Some.place c.broken-in-Ok-Some.result
    (subst (λ places. TellsPlace HasBadPattern c.args.repository.now.objects places (Some c.in-Ok-Some.place)) c.as_slice-places.ensures (rw c.in-Ok-Some.field-0-is at c.in-Ok-Some.ensures))
    c.broken-in-Ok-Some.ensures
