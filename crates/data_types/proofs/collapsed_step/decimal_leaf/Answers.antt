use Rattle.std.proofs.Common.{refl}
use Rattle.data_types.proofs.KeptLemmas.{none_within}
use Rattle.data_types.proofs.LeafLemmas.{decimal_none, decimal_long}
use Rattle.data_types.proofs.collapsed_step.decimal_leaf.Goals as goal

pub returns-in-Value : goal.returns-in-Value
returns-in-Value c = λ most chars text collapsed read. let answer = c.in-Value.ensures text read in ((text, collapsed, answer.0, answer.1), none_within most)

pub returns-in-TooLong : goal.returns-in-TooLong
returns-in-TooLong c = λ most chars text collapsed read. let answer = c.in-TooLong.ensures text read in (refl, (text, collapsed, answer.0), decimal_long chars text collapsed answer.1)

pub returns-in-Bad : goal.returns-in-Bad
returns-in-Bad c = λ most chars text collapsed read. decimal_none chars text collapsed (c.in-Bad.ensures text read)
