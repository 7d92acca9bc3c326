use Rattle.markup.proofs.TokenizerLemmas.{if_advanced, if_place}
use Rattle.markup.proofs.tokenizer.Tokenizer.advance.Goals as goal

pub returns-clause-advances : goal.returns-clause-advances
returns-clause-advances c = if_advanced c.take.result c.args.self.now c.take.new.self c.args.byte c.take.ensures

pub returns-clause-place : goal.returns-clause-place
returns-clause-place c = if_place c.take.result c.args.self.now c.take.new.self c.args.byte c.take.ensures
