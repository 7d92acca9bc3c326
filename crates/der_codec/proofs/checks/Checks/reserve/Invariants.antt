-- The checks of the types so far are there.
use Rattle.std.proofs.Common.{◌≡◌, ◌<◌, ℕ, Some}
use Rattle.facets.specs.declared.simple.Simple.{Simple as SimpleType}
use Rattle.reference_check.specs.Forms.{text_type}
use Rattle.message_model.specs.Tables.{types_of}
use Rattle.der_codec.specs.Checked.{CheckTypes}
use Rattle.der_codec.specs.Reserved.{HasCheckAt, WantsCheck}
use Rattle.der_codec.proofs.checks.Checks.reserve.Given as goal

abbrev pub invariant-loop-number : goal.invariant-loop-number
invariant-loop-number l =
    CheckTypes (types_of l.model) l.self
    × ((less n : ℕ) → HasCheckAt less l.fn.self.entries.items n → HasCheckAt less l.self.entries.items n)
    × ((n : ℕ) (simple : SimpleType) → n < l.number → text_type (types_of l.model n) ≡ Some simple → WantsCheck simple → HasCheckAt l.bytes l.self.entries.items n)
