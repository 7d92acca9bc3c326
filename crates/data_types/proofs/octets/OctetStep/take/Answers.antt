use Rattle.std.proofs.lemmas.Result.{on_ok_weaker}
use Rattle.data_types.proofs.OctetLemmas.{step_decoded}
use Rattle.data_types.proofs.octets.OctetStep.take.Goals as goal

pub returns-clause-ok : goal.returns-clause-ok
returns-clause-ok c = on_ok_weaker c.step.result (step_decoded c.args.self.now c.step.new.self c.args.c) c.step.ensures.ok
