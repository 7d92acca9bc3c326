use Rattle.std.proofs.Common.{sym, ◌∙◌, arith}
use Rattle.inst_pool.proofs.ContentLemmas.{length_pieces}
use Rattle.inst_pool.proofs.instance.Instance.count.Goals as goal

pub returns-clause-count : goal.returns-clause-count
returns-clause-count c = rw (← c.self.view_is) (c.len.ensures ∙ sym (length_pieces _ _))

pub returns-clause-bounded : goal.returns-clause-bounded
returns-clause-bounded c =
    let l = length_pieces c.self.inside.blocks.bytes.items c.self.inside.blocks.contents.items in let i = c.self.invariant.blocks in let room = c.self.invariant.room in
    let b = c.self.inside.blocks.bytes.ok in let k = i.byte_limit in let e = i.count in let n = room.pieces in
    rw (← c.self.view_is) (record { nodes = omega (arith, l, n); bytes = omega (arith, e, b, k); node_limit = room.limit; byte_limit = omega arith })
