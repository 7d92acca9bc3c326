use Rattle.std.proofs.Common.{◌∙◌, take, sym, ap, subst}
use Rattle.lexical_core.specs.XmlRuns.{IsXmlRun}
use Rattle.tests.proofs.facets_tests.place.Goals as goal

pub finish-requires : goal.finish-requires
finish-requires c =
    let same = c.split_at.ensures.front ∙ ap (take c.xml_run-run.result.bytes) (c.as_bytes-2.ensures.value ∙ sym c.as_bytes.ensures.value) in
    (_, c.in_ok-take_run.ensures.ok (subst (λ t. IsXmlRun t c.xml_run-run.result.characters) (sym same) c.xml_run-run.ensures.run) c.requires.0 c.requires.1)
