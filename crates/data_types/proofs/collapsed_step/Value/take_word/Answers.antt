use Rattle.data_types.proofs.LeafLemmas.{word_kept}
use Rattle.data_types.proofs.collapsed_step.Value.take_word.Goals as goal

pub returns-in-Octets-clause-taken : goal.returns-in-Octets-clause-taken
returns-in-Octets-clause-taken c =
    word_kept c.args.self.now c.in-Octets.step c.take_codes.new.self c.args.gap c.args.word.now c.in-Octets.is c.requires.word c.take_codes.ensures.text c.take_codes.ensures.count
