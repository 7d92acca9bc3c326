use Rattle.std.proofs.Common.{ℕ}
use Rattle.facets.specs.declared.simple.Simple.{Simple as SimpleType}
use Rattle.reference_check.specs.Forms.{Graph}
use Rattle.xml_instances.specs.Open.{AreKept}
use Rattle.xml_instances.specs.Verdicts.{AreVerdicts}
use Rattle.xml_instances.proofs.spare.Checks.grow.Given as goal

abbrev pub invariant-loop-at : goal.invariant-loop-at
invariant-loop-at l = ((types : Graph ℕ SimpleType) → AreKept types l.initial.self → AreKept types l.self) × (AreVerdicts l.initial.self → AreVerdicts l.self)
