use Rattle.markup.proofs.Exact.{reads_grammar}
use Rattle.markup.proofs.scan.reads_grammar.Goals as goal

pub returns : goal.returns
returns c = reads_grammar
