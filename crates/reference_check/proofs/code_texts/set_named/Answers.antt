-- The place that is found is that of the object with the id.
use Rattle.std.proofs.Common.{◌∙◌, sym, ap, true≢false}
use Rattle.std.specs.Option.{option_map}
use Rattle.std.proofs.lemmas.Option.{slice_get_within}
use Rattle.reference_check.proofs.code_texts.set_named.Goals as goal
use Rattle.reference_check.proofs.Lookups.{none_of_no_id}

pub object_in-requires : goal.object_in-requires
object_in-requires c = let (e, at, is) = c.in_ok-place.ensures.found in slice_get_within c.args.repository.now.objects c.in_ok-place.place e at

pub returns-in_err-place-clause-found : goal.returns-in_err-place-clause-found
returns-in_err-place-clause-found c =
    ap (option_map (λ p. p.1.now)) c.from_residual.ensures
    ∙ sym (none_of_no_id c.args.repository.now.objects c.args.id.now (λ has. true≢false (sym (c.in_err-place.ensures.there.1 has))))
