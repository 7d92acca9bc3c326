use Rattle.markup.proofs.SettleLemmas.{settles_by, settled_place}
use Rattle.markup.proofs.tokenizer.Tokenizer.settle.Goals as goal

pub returns-clause-settles : goal.returns-clause-settles
returns-clause-settles c = settles_by c.args.self.now c.settle_open.new.self c.args.byte c.settle_open.result c.settle_open.ensures.value c.settle_open.ensures.after

pub returns-clause-place : goal.returns-clause-place
returns-clause-place c = settled_place c.args.self.now c.settle_open.new.self c.args.byte c.settle_open.ensures.after
