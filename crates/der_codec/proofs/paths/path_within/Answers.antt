use Rattle.std.proofs.Common.{refl}
use Rattle.message_model.specs.Tables.{types_of}
use Rattle.der_codec.specs.inner.OpenNames.{document_names}
use Rattle.der_codec.proofs.paths.path_within.Goals as goal

pub loop-level-init : goal.loop-level-init
loop-level-init c = (document_names, c.in_ok-path.ensures (types_of c.args.model.now), refl)
