use Rattle.std.proofs.Common.{ap, length, arith}
use Rattle.der_codec.proofs.WideRuns.{enters_wide}
use Rattle.der_codec.proofs.checker.DerChecker.keep_wide.Goals as goal

pub begun_wide-requires-clause-room : goal.begun_wide-requires-clause-room
begun_wide-requires-clause-room c = (let size = ap length c.requires.piece in let room = c.requires.room in omega (arith, size, room))

pub begun_wide-requires-clause-read : goal.begun_wide-requires-clause-read
begun_wide-requires-clause-read c = (let g = c.requires.given in (g.0, g.1.0))

pub keep_inner-requires-clause-enters : goal.keep_inner-requires-clause-enters
keep_inner-requires-clause-enters c = λ bytes k.
    enters_wide c.args.model.now c.args.self.now c.args.run.now c.in-Some.wide c.args.first c.args.second c.args.behind.now c.args.piece.now bytes c.requires.some c.requires.fresh (c.in-Some.ensures.begun bytes k.0) c.requires.piece k
