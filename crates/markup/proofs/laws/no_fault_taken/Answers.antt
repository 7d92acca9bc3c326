use Rattle.markup.proofs.InputEnds.{none_but_truncated}
use Rattle.markup.proofs.laws.no_fault_taken.Goals as goal

pub returns : goal.returns
returns c reader bytes told h = none_but_truncated reader.tokenizer bytes h.0 h.1.reads h.1.clean
