-- The names of the code sets so far.
use Rattle.std.proofs.Common.{take}
use Rattle.code_sets.specs.inner.Given.{NamesOwn, key_texts}
use Rattle.code_sets.proofs.joining.own_names.Given as goal

abbrev pub invariant-loop-at : goal.invariant-loop-at
invariant-loop-at l = NamesOwn (key_texts l.names.keys) (take l.at l.repository.objects)
