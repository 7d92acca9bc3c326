use Rattle.std.proofs.Common.{arith}
use Rattle.inst_pool.proofs.BlockLemmas.{walk_some, walk_none}
use Rattle.inst_pool.proofs.walk.Walk.next.Goals as goal

pub returns-clause-some : goal.returns-clause-some
returns-clause-some c = rw (← c.self.view_is) (walk_some c.self.inside.instance.now.region.pieces c.self.inside.at c.piece-piece.result c.piece-piece.ensures)

pub returns-clause-none : goal.returns-clause-none
returns-clause-none c = walk_none c.self.inside.instance.now.region.pieces c.self.inside.at c.piece-piece.result _ (let t = c.if-self-count.false in let e = c.count.ensures.count in omega (arith, t, e)) c.piece-piece.ensures
