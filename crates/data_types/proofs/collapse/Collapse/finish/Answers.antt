use Rattle.data_types.proofs.CollapseLemmas.{is_collapsed}
use Rattle.data_types.proofs.collapse.Collapse.finish.Goals as goal

pub returns : goal.returns
returns c = is_collapsed c.args.self.now.place
