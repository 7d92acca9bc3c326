use Rattle.repo_engine.proofs.SomeAnswer.{TotalLaws, some_answer}
use Rattle.repo_engine.proofs.laws.some_answer.Goals as goal

pub returns : goal.returns
returns c =
    let laws : TotalLaws = record {
      one_of_both = c.one_of_both.ensures;
      joins_or_has_fault = c.joins_or_has_fault.ensures;
      some_model = c.some_model.ensures;
      ready_or_refused = c.ready_or_refused.ensures;
      compiled_are_sound = c.compiled_are_sound.ensures;
      some_verdict = c.some_verdict.ensures;
      some_der_verdict = c.some_der_verdict.ensures;
      compiled_have_kinds = c.compiled_have_kinds.ensures;
      some_canonical_xml = c.a_value_has_a_canonical_xml.ensures;
      instances_are_admitted = c.instances_are_admitted.ensures;
    } in
    some_answer laws
