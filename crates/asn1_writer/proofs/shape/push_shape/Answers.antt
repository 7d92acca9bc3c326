use Rattle.std.proofs.Common.{codes, subst}
use Rattle.outside.specs.Pushes.{Pushes}
use Rattle.asn1_model.specs.ModuleText.{braces, money_lines, own_line}
use Rattle.asn1_writer.proofs.shape.push_shape.Goals as goal

pub returns-in-Money : goal.returns-in-Money
returns-in-Money g c =
    rw c.in-Money.is
    (subst (λ code. Pushes g.O.Sink.held g.O.Sink.faults g.O.Sink.room c.args.sink.now c.push_money.new.sink c.push_money.result (braces (codes "SEQUENCE") own_line (money_lines code c.in-Money.base)))
    c.bytes.ensures c.push_money.ensures)

pub returns-in-Fragment : goal.returns-in-Fragment
returns-in-Fragment g c = rw c.in-Fragment.is c.push_bytes.ensures.push
