use Rattle.std.proofs.Common.{◌≡◌, List, length}
use Rattle.message_model.specs.Tables.{types_of}
use Rattle.der_model.specs.States.{PathName}
use Rattle.der_codec.specs.inner.OpenNames.{HasNames, names_over, document_names}
use Rattle.der_codec.proofs.paths.path_within.Given as goal

-- some names are written, and with those of what is left they are all
abbrev pub invariant-loop-level : goal.invariant-loop-level
invariant-loop-level l =
    (names : List PathName) × HasNames (types_of l.model) l.path names × (names_over (types_of l.model) names l.left ≡ names_over (types_of l.model) document_names l.round)

abbrev pub decreases-loop-level : goal.decreases-loop-level
decreases-loop-level l = length l.left
