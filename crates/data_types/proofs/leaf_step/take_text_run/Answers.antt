use Rattle.std.proofs.lemmas.Result.{on_ok_weaker}
use Rattle.data_types.proofs.RunLemmas.{run_short}
use Rattle.data_types.proofs.LeafLemmas.{run_taken}
use Rattle.data_types.proofs.leaf_step.take_text_run.Goals as goal

pub take-requires : goal.take-requires
take-requires c = run_short c.args.run.now c.args.count c.requires

pub returns-clause-ok : goal.returns-clause-ok
returns-clause-ok c =
    on_ok_weaker c.take.result
    (λ takes r. run_taken c.args.text.now c.take.new.self c.args.run.now r.chars c.args.count r.spelled r.count_is r.are takes) c.take.ensures.ok
