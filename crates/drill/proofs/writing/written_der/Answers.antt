use Rattle.std.proofs.Common.{ap, ◌∙◌}
use Rattle.outside.specs.Steady.{SteadyHeld}
use Rattle.inst_pool.specs.Pieces.{Region}
use Rattle.der_model.specs.Der.{der_of}
use Rattle.der_model.specs.DerMessage.{der_message}
use Rattle.drill.proofs.Held.{held_is}
use Rattle.drill.proofs.writing.written_der.Goals as goal

pub write_der-requires-clause-held : goal.write_der-requires-clause-held
write_der-requires-clause-held c = (c.requires.0, c.requires.1, ap (λ (r : Region). r.pieces) c.measure.ensures.same ∙ c.requires.2)

pub returns-in-Ok : goal.returns-in-Ok
returns-in-Ok c v admitted pieces =
    held_is c.in_ok-sink.sink c.write_der.new.sink c.write_der.result c.in-Ok.field-0 (der_of (der_message c.args.model.now) v)
    (c.write_der.ensures v admitted (ap (λ (r : Region). r.pieces) c.measure.ensures.same ∙ pieces)) c.in-Ok.is (ap (λ (s : SteadyHeld). s.held) c.in_ok-sink.ensures)
