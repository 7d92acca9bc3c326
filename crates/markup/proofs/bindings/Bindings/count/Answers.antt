-- As many are kept as are open.
use Rattle.std.proofs.Common.{◌∙◌}
use Rattle.markup.proofs.BindingLemmas.{length-kept}
use Rattle.markup.proofs.bindings.Bindings.count.Goals as goal

pub returns : goal.returns
returns c declared is = c.len.ensures ∙ length-kept declared c.args.self.now.open is.open_are
