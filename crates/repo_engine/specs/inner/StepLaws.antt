-- What is known of the steps of an answer.
use Rattle.repo_loader.specs.Laws.{OneRepository, OneLoadFault, SpelledHasNoLoadFault}
use Rattle.code_sets.specs.Laws.{OneJoined, OneCodesFault, JoinedHasNone}
use Rattle.message_model.specs.Laws.{OneModel, OneRefusal, ReadyIsNotRefused, CompiledAreSound}
use Rattle.xml_writer.specs.Laws.{OneCanonicalXml}
use Rattle.transcoder.specs.Laws.{OneVerdict, OneDerVerdict}

-- what is known of each step
pub record StepLaws : Type 0 where
  pub one_repository : OneRepository
  pub one_load_fault : OneLoadFault
  pub spelled_has_none : SpelledHasNoLoadFault
  pub one_joined : OneJoined
  pub one_codes_fault : OneCodesFault
  pub joined_has_none : JoinedHasNone
  pub one_model : OneModel
  pub one_refusal : OneRefusal
  pub ready_is_not_refused : ReadyIsNotRefused
  pub compiled_are_sound : CompiledAreSound
  pub one_verdict : OneVerdict
  pub one_der_verdict : OneDerVerdict
  pub one_canonical_xml : OneCanonicalXml
