use Rattle.std.proofs.Common.{◌∙◌}
use Rattle.asn1_model.proofs.given.Given.is_given.Goals as goal

pub returns : goal.returns
returns c taken kept = c.contains_key.ensures ∙ kept.kept c.args.name.now
