-- The place stands there, and nowhere else.
use Rattle.std.proofs.Common.{rules}
use Rattle.markup.proofs.RankLemmas.{ranked_remove}
use Rattle.markup.proofs.open_bindings.take_out.Goals as goal

pub returns : goal.returns
returns c kept was =
    rw c.remove.ensures.items (ranked_remove kept c.args.order.now.items c.in-Some.noted.now c.args.place was (rw c.as_slice.ensures.value at (c.stands_at.ensures (search rules))))
