use Rattle.outside.proofs.Serving.{left_by_parts}
use Rattle.outside.proofs.lent.LentSourceSource.pull.Goals as goal

pub returns-clause-bytes : goal.returns-clause-bytes
returns-clause-bytes c = left_by_parts _ _ _ _ _ _ c.self.view_is c.split_at.ensures.back c.serve-count.ensures.bytes c.serve-count.ensures.end
