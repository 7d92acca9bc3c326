-- A list is empty where its length is 0.
use Rattle.std.proofs.Common.{◌∙◌}
use Rattle.markup.proofs.Lookups.{empty_is}
use Rattle.markup.proofs.names.is_empty.Goals as goal

pub returns : goal.returns
returns c = c.is_empty.ensures ∙ empty_is c.args.text.now
