use Rattle.data_types.specs.Binaries.{without_spaces}
use Rattle.data_types.proofs.LeafLemmas.{binary_within, binary_fault}
use Rattle.data_types.proofs.collapsed_step.binary_leaf.Goals as goal

pub returns-in-Ok : goal.returns-in-Ok
returns-in-Ok c = λ most chars text collapsed decoded. binary_within most chars text c.in-Ok.octets.now collapsed (c.in-Ok.ensures.ok most (without_spaces text) decoded)

pub returns-in-Err : goal.returns-in-Err
returns-in-Err c = λ most chars text collapsed decoded. binary_fault most chars text c.in-Err.rule collapsed (c.in-Err.ensures.err most (without_spaces text) decoded)
