-- The codes behind those that are left stand under their names.
use Rattle.std.proofs.Common.{◌≡◌, List, ◌++◌, length}
use Rattle.repo_objects.specs.declared.objects.CodeDef.{CodeDef}
use Rattle.reference_check.specs.NamedCodes.{FindsCodes}
use Rattle.reference_check.proofs.code_index.NamedCodes.new.Given as goal

abbrev pub invariant-loop-last : goal.invariant-loop-last
invariant-loop-last l = (done : List CodeDef) × (l.definitions ≡ l.left ++ done) × FindsCodes l.firsts done

abbrev pub decreases-loop-last : goal.decreases-loop-last
decreases-loop-last l = length l.left
