use Rattle.std.proofs.Common.{arith}
use Rattle.markup.proofs.InsideLemmas.{front_more}
use Rattle.markup.proofs.InsideFound.{left_behind}
use Rattle.markup.proofs.tokenizer.Tokenizer.go_over.Goals as goal

pub loop-count-preserved : goal.loop-count-preserved
loop-count-preserved c = front_more c.args.self.now c.loop-count.self c.go_on.new.self c.args.piece.now c.loop-count.rest.now c.split_at.result.1.now c.in-Ok.count c.loop-count.invariant c.in-Ok.ensures.over c.split_at.ensures.back

pub returns-then-count-eq0-clause-all : goal.returns-then-count-eq0-clause-all
returns-then-count-eq0-clause-all c more rest e g =
    left_behind c.args.self.now c.loop-count.self c.args.piece.now c.loop-count.rest.now more rest c.in-Ok.count c.loop-count.invariant c.in-Ok.ensures.all (omega (arith, c.if-count-eq0.true)) e g
