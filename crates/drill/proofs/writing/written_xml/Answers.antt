use Rattle.std.proofs.Common.{sym, ap, subst}
use Rattle.outside.specs.Steady.{SteadyHeld}
use Rattle.message_model.specs.Tables.{message_of}
use Rattle.xml_writer.specs.CanonXml.{IsCanonXml}
use Rattle.drill.proofs.Held.{held_is}
use Rattle.drill.proofs.writing.written_xml.Goals as goal

pub returns-in-Ok : goal.returns-in-Ok
returns-in-Ok c v admitted pieces =
    let out = c.write_xml.ensures v admitted pieces in
    subst (λ text. IsCanonXml (message_of c.args.model.now) v text)
    (sym (held_is c.in_ok-sink.sink c.write_xml.new.sink c.write_xml.result c.in-Ok.field-0 out.0 out.2 c.in-Ok.is (ap (λ (s : SteadyHeld). s.held) c.in_ok-sink.ensures))) out.1
