use Rattle.std.proofs.Common.{refl, sym, ◌∙◌}
use Rattle.message_model.specs.Tables.{types_of}
use Rattle.der_codec.proofs.PathsWritten.{put_list}
use Rattle.der_codec.proofs.paths.Path.put_slot.Goals as goal

pub returns : goal.returns
returns c = λ names h. put_list (types_of c.args.model.now) c.args.self.now _ names _ c.args.parent c.args.at c.in-Some.ensures (sym c.comes_once.ensures ∙ c.if-comes_once.false) refl refl h
