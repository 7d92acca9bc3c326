use Rattle.std.proofs.Common.{arith, ◌%◌}
use Rattle.drill.proofs.Depths.{stem_shorter}
use Rattle.drill.proofs.growing.Sprout.grow_one.Goals as goal

pub open-requires-clause-room : goal.open-requires-clause-room
open-requires-clause-room c =
    let g = c.requires.grown.0 in
    let h = c.requires.grown.1 in
    let less = stem_shorter (c.next_word-word.result % 3) g.path c.args.self.now.stem c.leave_some.new.self h.path (c.in_ok-leave_some.ensures g.path h.path) in
    omega (arith, less)
