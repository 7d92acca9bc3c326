use Rattle.std.proofs.Common.{◌<◌, length, arith}
use Rattle.inst_pool.specs.Blocks.{block_pieces}
use Rattle.inst_pool.proofs.ContentLemmas.{length_pieces}
use Rattle.inst_pool.proofs.instance.Instance.set_group.Goals as goal

pub set-requires : goal.set-requires
set-requires c =
    let r : c.args.at < length (block_pieces c.self.inside.blocks) = rw (← c.self.view_is) at c.requires in
    let l = length_pieces c.self.inside.blocks.bytes.items c.self.inside.blocks.contents.items in let n = c.self.invariant.groups in omega (arith, r, l, n)
