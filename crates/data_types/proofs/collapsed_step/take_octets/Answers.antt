use Rattle.std.proofs.lemmas.Result.{on_ok_weaker}
use Rattle.data_types.proofs.LeafLemmas.{octets_taken}
use Rattle.data_types.proofs.collapsed_step.take_octets.Goals as goal

pub returns-in-Char-clause-ok : goal.returns-in-Char-clause-ok
returns-in-Char-clause-ok c = on_ok_weaker c.take.result (octets_taken c.args.step.now c.take.new.self c.args.gain c.args.c c.requires c.in-Char.is) c.take.ensures.ok
