-- Names that tie are one.
use Rattle.std.proofs.Common.{ap, ◌∙◌}
use Rattle.std.specs.Ordering.{is_eq}
use Rattle.markup.specs.inner.TagParts.{bound_entry}
use Rattle.markup.proofs.Twins.{named_tied}
use Rattle.markup.proofs.attributes.is_named.Goals as goal

pub returns : goal.returns
returns c = c.is_eq.ensures ∙ (ap is_eq c.name_cmp.ensures ∙ named_tied (bound_entry c.args.bindings.now c.args.left.now).name (bound_entry c.args.bindings.now c.args.right.now))
