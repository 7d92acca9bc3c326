use Rattle.std.proofs.Common.{ℕ}
use Rattle.facets.specs.declared.simple.Simple.{Simple as SimpleType}
use Rattle.reference_check.specs.Forms.{Graph}
use Rattle.der_codec.specs.Checked.{CheckTypes}
use Rattle.der_codec.specs.Reserved.{HasCheckAt}
use Rattle.der_codec.proofs.checks.Checks.grow.Given as goal

abbrev pub invariant-loop-at : goal.invariant-loop-at
invariant-loop-at l =
    ((types : Graph ℕ SimpleType) → CheckTypes types l.initial.self → CheckTypes types l.self)
    × ((bytes n : ℕ) → HasCheckAt bytes l.initial.self.entries.items n → HasCheckAt bytes l.self.entries.items n)
