-- No words and bytes are without an answer: no step is without both a refusal and something to go on with.
use Rattle.std.proofs.Common.{◌≡◌, ◌⊎◌, ℕ, ◌+◌, ◌≤◌, length, Bool, true, false, List, refl, inl, inr}
use Rattle.data_types.specs.Value.{Value}
use Rattle.repo_objects.specs.Repository.{Contents}
use Rattle.repo_loader.specs.Laws.{OneOfBoth}
use Rattle.repo_loader.specs.Loaded.{Spells}
use Rattle.code_sets.specs.Codes.{CodesFault, HasCodesFault, Joins}
use Rattle.code_sets.specs.Laws.{JoinsOrHasFault}
use Rattle.reference_check.specs.Graph.{Place}
use Rattle.message_model.specs.Laws.{SomeModel, ReadyOrRefused, CompiledAreSound}
use Rattle.message_model.specs.Ready.{MessageRule, IsReady, IsRefused}
use Rattle.message_model.specs.Admits.{AdmitsAs}
use Rattle.message_model.specs.Tables.{Tables, message_of, types_of}
use Rattle.message_model.specs.declared.fault.Fault.{Fault}
use Rattle.der_model.specs.SomeAnswers.{HaveKinds, CompiledHaveKinds}
use Rattle.der_model.specs.Der.{der_of}
use Rattle.der_model.specs.DerMessage.{der_message}
use Rattle.xml_writer.specs.CanonXml.{IsCanonXml}
use Rattle.xml_writer.specs.Laws.{SomeCanonicalXml}
use Rattle.transcoder.specs.Checked.{IsAccepted, HasXmlFault, IsDerAccepted, HasDerFault}
use Rattle.transcoder.specs.Laws.{SomeVerdict, SomeDerVerdict, AreSoundTypes}
use Rattle.drill.specs.BuiltIn.{drill_tables}
use Rattle.drill.specs.Drilled.{IsAdmitted}
use Rattle.drill.specs.Growing.{instance, deepest, most_beside}
use Rattle.repo_engine.specs.Answer.{Answer, IsVerdictOf, IsVerdictOfVerb, Drills, FromXml, RefusesAsXml, GivesXmlValue, FromDer, RefusesAsDer, GivesDerValue, IsFine, GivesXml, GivesDer, FromRepository, TellsFileFault, RefusesCodes, GivesJoined, RefusesMessage, GivesTables}
use Rattle.repo_engine.specs.Command.{Command, list, message, drill, HasCommandForm, hands_in}
use Rattle.repo_engine.specs.Steps.{Then, refused, goes_on, IsTotal}
use Rattle.repo_engine.specs.Verdict.{Verdict}
use Rattle.repo_engine.specs.declared.command.Verb.{Verb}
use Rattle.repo_engine.specs.declared.command.Verb.TheVariants.{Types, Xsd, Asn1, CheckXml, CheckDer, CanonXml, XmlToDer, DerToXml}

-- not without a verdict
abbrev Told : (Verdict → Type 0) → Type 0
Told Is = ¬ (¬ ((v : Verdict) × Is v))

-- a step that does something, before what has a verdict
some_then : (A : Type 0) (Refuses : Verdict → Type 0) (Gives : A → Type 0) (Next : A → Verdict → Type 0) → ¬ (¬ IsTotal Verdict A Refuses Gives) → ((a : A) → Gives a → Told (Next a))
    → Told (Then Verdict A Refuses Gives Next)
some_then A Refuses Gives Next total next lacks = total by
  where
    by : IsTotal Verdict A Refuses Gives → ⊥
    by (inl (v, h)) = lacks (v, refused h)
    by (inr (a, h)) = next a h (λ (v, more). lacks (v, goes_on a h more))

-- what is known of each step
pub record TotalLaws : Type 0 where
  pub one_of_both : OneOfBoth
  pub joins_or_has_fault : JoinsOrHasFault
  pub some_model : SomeModel
  pub ready_or_refused : ReadyOrRefused
  pub compiled_are_sound : CompiledAreSound
  pub some_verdict : SomeVerdict
  pub some_der_verdict : SomeDerVerdict
  pub compiled_have_kinds : CompiledHaveKinds
  pub some_canonical_xml : SomeCanonicalXml
  pub instances_are_admitted : IsAdmitted

module _ (laws : TotalLaws) where
  file_total : (r : List ℕ) → ¬ (¬ IsTotal Verdict Contents (TellsFileFault r) (Spells r))
  file_total r lacks = laws.one_of_both r (λ own spells. lacks (inr (own, spells))) (λ f h. lacks (inl (_, (f, h, refl))))

  codes_total : (codes_word : List ℕ) (own : Contents) (c : List ℕ) → IsTotal Verdict Contents (RefusesCodes codes_word own c) (GivesJoined codes_word own c)
  codes_total codes_word own c = by (hands_in codes_word) refl (laws.joins_or_has_fault own c)
    where
      by : (b : Bool) → hands_in codes_word ≡ b → (((new : Contents) × Joins own c new) ⊎ ((fault : CodesFault) × HasCodesFault own c fault))
          → IsTotal Verdict Contents (RefusesCodes codes_word own c) (GivesJoined codes_word own c)
      by false off each = inr (own, inl (off, refl))
      by true on (inl (new, joins)) = inr (new, inr (on, joins))
      by true on (inr (f, h)) = inl (_, (on, (f, h, refl)))

  message_total : (R : Contents) (id : List ℕ) → ¬ (¬ IsTotal Verdict Tables (RefusesMessage R id) (GivesTables R id))
  message_total R id lacks = laws.ready_or_refused R id by
    where
      by : (IsReady R id ⊎ ((r : MessageRule) × (p : Place) × IsRefused R id r p)) → ⊥
      by (inl ready) = laws.some_model R id ready (λ (ids, T, reached, made). lacks (inr (T, (ready, (ids, reached, made)))))
      by (inr (r, p, f)) = lacks (inl (_, (r, p, f, refl)))

  xml_total : (T : Tables) (i : List ℕ) → AreSoundTypes T → ¬ (¬ IsTotal Verdict Value (RefusesAsXml T i) (GivesXmlValue T i))
  xml_total T i sound lacks = laws.some_verdict T i sound by
    where
      by : (IsAccepted T i ⊎ ((f : Fault) × HasXmlFault T i f)) → ⊥
      by (inl ((v, s), short)) = lacks (inr (v, (s, short)))
      by (inr (f, h)) = lacks (inl (_, (f, h, refl)))

  der_total : (T : Tables) (i : List ℕ) → AreSoundTypes T → HaveKinds (types_of T) → ¬ (¬ IsTotal Verdict Value (RefusesAsDer T i) (GivesDerValue T i))
  der_total T i sound kinds lacks = laws.some_der_verdict T i sound kinds by
    where
      by : (IsDerAccepted T i ⊎ ((f : Fault) × HasDerFault T i f)) → ⊥
      by (inl ((v, s), short)) = lacks (inr (v, (s, short)))
      by (inr (f, h)) = lacks (inl (_, (f, h, refl)))

  some_xml : (T : Tables) (value : Value) → AdmitsAs (types_of T) (types_of T 0) value → Told (GivesXml T value)
  some_xml T value admitted lacks = let text = laws.some_canonical_xml (message_of T) value admitted in lacks (_, (text.0, text.1, refl))

  sound_types : (R : Contents) (id : List ℕ) (T : Tables) → GivesTables R id T → AreSoundTypes T
  sound_types R id T (ready, (ids, reached, made)) = laws.compiled_are_sound R id ids T ready reached made

  type_kinds : (R : Contents) (id : List ℕ) (T : Tables) → GivesTables R id T → HaveKinds (types_of T)
  type_kinds R id T (ready, (ids, reached, made)) = laws.compiled_have_kinds R id ids T ready reached made

  from_xml : (T : Tables) (i : List ℕ) (Next : Value → Verdict → Type 0) → AreSoundTypes T → ((value : Value) → GivesXmlValue T i value → Told (Next value)) → Told (FromXml T i Next)
  from_xml T i Next sound next = some_then Value (RefusesAsXml T i) (GivesXmlValue T i) Next (xml_total T i sound) next

  from_der : (T : Tables) (i : List ℕ) (Next : Value → Verdict → Type 0) → AreSoundTypes T → HaveKinds (types_of T) → ((value : Value) → GivesDerValue T i value → Told (Next value)) → Told (FromDer T i Next)
  from_der T i Next sound kinds next = some_then Value (RefusesAsDer T i) (GivesDerValue T i) Next (der_total T i sound kinds) next

  some_verb : (verb : Verb) (R : Contents) (id i : List ℕ) (T : Tables) → GivesTables R id T → Told (IsVerdictOfVerb verb i T)
  some_verb Types R id i T gives = λ lacks. lacks (_, refl)
  some_verb Xsd R id i T gives = λ lacks. lacks (_, refl)
  some_verb Asn1 R id i T gives = λ lacks. lacks (_, refl)
  some_verb CheckXml R id i T gives = from_xml T i IsFine (sound_types R id T gives) (λ value h lacks. lacks (_, refl))
  some_verb CheckDer R id i T gives = from_der T i IsFine (sound_types R id T gives) (type_kinds R id T gives) (λ value h lacks. lacks (_, refl))
  some_verb CanonXml R id i T gives = from_xml T i (GivesXml T) (sound_types R id T gives) (λ value (s, short). some_xml T value (let is = s.instance in is.admitted))
  some_verb XmlToDer R id i T gives = from_xml T i (GivesDer T) (sound_types R id T gives) (λ value h lacks. lacks (_, refl))
  some_verb DerToXml R id i T gives = from_der T i (GivesXml T) (sound_types R id T gives) (type_kinds R id T gives) (λ value ((admitted, is), short). some_xml T value admitted)

  some_from_repository : (codes_word r c : List ℕ) (Next : Contents → Verdict → Type 0) → ((R : Contents) → Told (Next R)) → Told (FromRepository codes_word r c Next)
  some_from_repository codes_word r c Next next =
      some_then Contents (TellsFileFault r) (Spells r) (λ own. Then Verdict Contents (RefusesCodes codes_word own c) (GivesJoined codes_word own c) Next) (file_total r)
      (λ own spells. some_then Contents (RefusesCodes codes_word own c) (GivesJoined codes_word own c) Next (λ lacks. lacks (codes_total codes_word own c)) (λ R joined. next R))

  some_drill : (number size : ℕ) → size ≤ most_beside → Told (Drills number size)
  some_drill number size small = some_xml_of (laws.some_canonical_xml (message_of drill_tables) (instance number size) (laws.instances_are_admitted number size small))
    where
      some_xml_of : ((text : List ℕ) × IsCanonXml (message_of drill_tables) (instance number size) text) → Told (Drills number size)
      some_xml_of (text, is) lacks = lacks (
        _,
        (
          record { nodes = size + 1; depth = deepest number size; xml = length text; der = length (der_of (der_message drill_tables) (instance number size)) },
          record { nodes = refl; depth = refl; xml = (text, is, refl); der = refl },
          refl,
        ),
      )

  some_of : (ws : List (List ℕ)) (command : Command) (r c i : List ℕ) → HasCommandForm ws command → Told (IsVerdictOf command r c i)
  some_of ws (list codes_word) r c i form = some_from_repository codes_word r c _ (λ R lacks. lacks (_, refl))
  some_of ws (message verb codes_word id) r c i form =
      some_from_repository codes_word r c (λ R. Then Verdict Tables (RefusesMessage R id) (GivesTables R id) (IsVerdictOfVerb verb i))
      (λ R. some_then Tables (RefusesMessage R id) (GivesTables R id) (IsVerdictOfVerb verb i) (message_total R id) (λ T gives. some_verb verb R id i T gives))
  some_of ws (drill number size) r c i (one, other, is, says, counts, small) = some_drill number size small

  pub some_answer : (ws : List (List ℕ)) (r c i : List ℕ) → Told (Answer ws r c i)
  some_answer ws r c i lacks = lacks (_, inl ((λ command form. some_of ws command r c i form (λ (v, of). lacks (v, inr (command, form, of)))), refl))
