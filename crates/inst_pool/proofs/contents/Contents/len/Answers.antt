use Rattle.std.proofs.Common.{sym, ◌∙◌}
use Rattle.inst_pool.proofs.NodeLemmas.{length_contents}
use Rattle.inst_pool.proofs.contents.Contents.len.Goals as goal

pub returns : goal.returns
returns c = rw (← c.self.view_is) (c.len.ensures ∙ (c.self.inside.nodes.ok.0 ∙ sym (length_contents _ _ 0 _)))
