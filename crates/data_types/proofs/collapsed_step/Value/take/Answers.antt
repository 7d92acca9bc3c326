use Rattle.std.proofs.lemmas.Result.{on_ok_weaker}
use Rattle.data_types.proofs.LeafLemmas.{octets_kept}
use Rattle.data_types.proofs.collapsed_step.Value.take.Goals as goal

pub returns-in-Octets-clause-ok : goal.returns-in-Octets-clause-ok
returns-in-Octets-clause-ok c =
    on_ok_weaker c.take_octets.result
    (λ grows. octets_kept c.args.self.now c.in-Octets.step c.take_octets.new.step c.args.gain c.args.c c.in-Octets.is grows c.take_octets.ensures.count) c.take_octets.ensures.ok
