use Rattle.std.proofs.Common.{◌∙◌, take, sym, ap, subst}
use Rattle.lexical_core.specs.XmlRuns.{IsXmlRun}
use Rattle.tests.proofs.data_types_tests.read.Goals as goal

pub returns : goal.returns
returns c = λ kind most chars taken.
    let same = c.split_at.ensures.front ∙ ap (take c.xml_run-run.result.bytes) (c.as_bytes-2.ensures.value ∙ sym c.as_bytes.ensures.value) in
    (_, c.in_ok-take_run.ensures.ok (subst (λ t. IsXmlRun t c.xml_run-run.result.characters) (sym same) c.xml_run-run.ensures.run) kind most chars taken)
