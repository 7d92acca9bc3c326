use Rattle.std.proofs.Common.{◌∙◌}
use Rattle.message_model.specs.Tables.{types_of}
use Rattle.der_codec.proofs.PathsWritten.{whole_path}
use Rattle.der_codec.proofs.paths.Path.finish.Goals as goal

pub returns : goal.returns
returns c = λ names h. c.in_ok-put_held.ensures ∙ whole_path (types_of c.args.model.now) c.args.self names h
