use Rattle.std.proofs.Common.{take}
use Rattle.std.specs.List.{AllByRecursion}
use Rattle.lexical_core.specs.Characters.{IsSpace}
use Rattle.data_types.proofs.words.space_count.Given as goal

-- the codes so far are white space
abbrev pub invariant-loop-at : goal.invariant-loop-at
invariant-loop-at l = AllByRecursion IsSpace (take l.at l.codes)
