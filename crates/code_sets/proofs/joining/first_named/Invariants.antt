-- No record so far names one.
use Rattle.std.proofs.Common.{◌≡◌, false, take}
use Rattle.std.specs.List.{list_any}
use Rattle.code_sets.specs.inner.Given.{is_set_named, key_texts}
use Rattle.code_sets.proofs.joining.first_named.Given as goal

abbrev pub invariant-loop-record : goal.invariant-loop-record
invariant-loop-record l = list_any (is_set_named (key_texts l.names.keys)) (take l.record-index l.record-items) ≡ false
