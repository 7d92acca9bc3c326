use Rattle.std.proofs.Common.{subst}
use Rattle.outside.specs.Pushes.{Pushes}
use Rattle.xml_writer.proofs.PlainTexts.{plain_text}
use Rattle.xml_writer.proofs.texts.push_spelled.Goals as goal

pub returns-then-stands_for_itself : goal.returns-then-stands_for_itself
returns-then-stands_for_itself g c = λ chars e.
    subst (λ t. Pushes g.O.Sink.held g.O.Sink.faults g.O.Sink.room c.args.sink.now c.push_bytes.new.sink c.push_bytes.result t)
    (plain_text c.args.attribute c.args.text.now chars (c.stands_for_itself.ensures c.if-stands_for_itself.true) e) c.push_bytes.ensures.push

pub returns : goal.returns
returns g c = λ chars e.
    subst (λ t. Pushes g.O.Sink.held g.O.Sink.faults g.O.Sink.room c.args.sink.now c.push_escaped.new.sink c.push_escaped.result t) (c.push_escaped.ensures.chars chars e)
    (record { appends = c.push_escaped.ensures.bytes; cause = c.push_escaped.ensures.cause; takes = c.push_escaped.ensures.room })
