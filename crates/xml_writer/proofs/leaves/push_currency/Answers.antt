-- The name, the code and the end.
use Rattle.std.proofs.Common.{◌≡◌, ℕ, List, ◌++◌, codes, ap, sym, append_assoc}
use Rattle.xml_writer.specs.CanonXml.{currency_text}
use Rattle.xml_writer.proofs.Blocks.{first_stops, second_stops, third_ends}
use Rattle.xml_writer.proofs.leaves.push_currency.Goals as goal

whole : (text : List ℕ) → codes " Ccy=\"" ++ (text ++ codes "\">") ≡ currency_text text ++ codes ">"
whole text = ap (λ t. codes " Ccy=\"" ++ t) (sym (append_assoc text (codes "\"") (codes ">")))

pub returns-in-Err : goal.returns-in-Err
returns-in-Err g c = λ text is.
    first_stops g.O.Sink.held g.O.Sink.faults g.O.Sink.room (codes " Ccy=\"") text (codes "\">") _ (whole text) _ _ c.in-Err.error c.in-Err.ensures.push

pub returns-in-Err-push_code : goal.returns-in-Err-push_code
returns-in-Err-push_code g c = λ text is.
    second_stops g.O.Sink.held g.O.Sink.faults g.O.Sink.room (codes " Ccy=\"") text (codes "\">") _ (whole text) _ _ _ c.in-Err-push_code.error c.in_default.ensures.push (c.in-Err-push_code.ensures text is)

pub returns : goal.returns
returns g c = λ text is.
    third_ends g.O.Sink.held g.O.Sink.faults g.O.Sink.room (codes " Ccy=\"") text (codes "\">") _ (whole text) _ _ _ _ c.push_bytes-2.result c.in_default.ensures.push (c.in_default-push_code.ensures text is) c.push_bytes-2.ensures.push
