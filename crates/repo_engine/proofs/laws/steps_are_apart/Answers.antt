use Rattle.repo_engine.proofs.laws.steps_are_apart.Goals as goal

pub returns : goal.returns
returns c = record {
  one_repository = c.one_repository.ensures;
  one_load_fault = c.one_load_fault.ensures;
  spelled_has_none = c.spelled_has_none.ensures;
  one_joined = c.one_joined.ensures;
  one_codes_fault = c.one_codes_fault.ensures;
  joined_has_none = c.joined_has_none.ensures;
  one_model = c.one_model.ensures;
  one_refusal = c.one_refusal.ensures;
  ready_is_not_refused = c.ready_is_not_refused.ensures;
  compiled_are_sound = c.compiled_are_sound.ensures;
  one_verdict = c.one_verdict.ensures;
  one_der_verdict = c.one_der_verdict.ensures;
  one_canonical_xml = c.a_value_has_one_canonical_xml.ensures;
}
