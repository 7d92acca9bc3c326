use Rattle.std.proofs.Common.{subst}
use Rattle.lexical_core.proofs.DecimalLaws.{canonical_text}
use Rattle.outside.specs.Sink.{PushAppends, HasRoom}
use Rattle.data_types.proofs.canonical.push_number.Goals as goal

pub returns-clause-bytes : goal.returns-clause-bytes
returns-clause-bytes g c = λ text is canonical.
    subst (λ t. PushAppends (g.O.Sink.held c.args.sink.now) (g.O.Sink.held c.push.new.self) c.push.result t)
    (canonical_text _ text c.args.number.now is c.text_into-length.ensures.text canonical) c.push.ensures.bytes

pub returns-clause-room : goal.returns-clause-room
returns-clause-room g c = λ text is canonical.
    subst (λ t. HasRoom (g.O.Sink.room c.args.sink.now) (g.O.Sink.room c.push.new.self) c.push.result t)
    (canonical_text _ text c.args.number.now is c.text_into-length.ensures.text canonical) c.push.ensures.room
