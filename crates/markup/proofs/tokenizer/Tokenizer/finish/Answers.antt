use Rattle.markup.proofs.SettleLemmas.{finishes_by}
use Rattle.markup.proofs.tokenizer.Tokenizer.finish.Goals as goal

pub returns : goal.returns
returns c = finishes_by c.args.self.now c.open.result c.open.ensures
