use Rattle.asn1_writer.proofs.shape.push_plain.Goals as goal

pub returns-in-DateTime : goal.returns-in-DateTime
returns-in-DateTime g c = rw c.in-DateTime.is c.push_date-in-DateTime.ensures

pub returns-in-YearMonth : goal.returns-in-YearMonth
returns-in-YearMonth g c = rw c.in-YearMonth.is c.push_date-in-YearMonth.ensures
