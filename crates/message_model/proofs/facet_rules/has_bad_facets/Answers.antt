use Rattle.std.proofs.Common.{◌≡◌, [], refl}
use Rattle.reference_check.specs.Rules.{set_codes}
use Rattle.message_model.proofs.facet_rules.has_bad_facets.Goals as goal

pub returns : goal.returns
returns c =
    let none : set_codes c.args.object.now ≡ [] = c.if-has_codes.ensures.none refl in
    (λ t. (none, c.is_out_of_bounds.ensures.0 t), λ h. c.is_out_of_bounds.ensures.1 h.1)
