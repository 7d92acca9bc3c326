-- Words and bytes have at most one answer: each step refuses in one way or gives one thing, and not both.
use Rattle.std.proofs.Common.{◌≡◌, ℕ, List, [], length, sym, ap, subst, ◌∙◌, inl, inr}
use Rattle.data_types.specs.Value.{Value}
use Rattle.repo_objects.specs.Repository.{Contents}
use Rattle.repo_loader.specs.Loaded.{Spells}
use Rattle.code_sets.specs.Codes.{CodesFault}
use Rattle.reference_check.specs.Reached.{place_id}
use Rattle.message_model.specs.Ready.{message_rule_number}
use Rattle.message_model.specs.Tables.{Tables, message_of}
use Rattle.transcoder.specs.Laws.{HaveOneVerdict, HaveOneDerVerdict, AreSoundTypes}
use Rattle.drill.specs.BuiltIn.{drill_tables}
use Rattle.drill.specs.Drilled.{IsDrilled}
use Rattle.drill.specs.Growing.{instance}
use Rattle.drill.specs.declared.drilling.Drilled.{Drilled}
use Rattle.repo_engine.specs.Texts.{drill_text}
use Rattle.repo_engine.specs.Answer.{Answer, IsVerdictOf, IsVerdictOfVerb, Drills, FromXml, RefusesAsXml, GivesXmlValue, FromDer, RefusesAsDer, GivesDerValue, IsFine, GivesXml, GivesDer, FromMessage, FromRepository, TellsFileFault, RefusesCodes, GivesJoined, RefusesMessage, GivesTables, GivesMessage}
use Rattle.repo_engine.specs.Command.{Command, list, message, drill}
use Rattle.repo_engine.specs.Steps.{Then, refused, goes_on, One, IsStep}
use Rattle.repo_engine.specs.Verdict.{Verdict}
use Rattle.repo_engine.specs.Verdict as verdict
use Rattle.repo_engine.specs.inner.StepLaws.{StepLaws}
use Rattle.repo_engine.specs.declared.command.Verb.{Verb}
use Rattle.repo_engine.specs.declared.command.Verb.TheVariants.{Types, Xsd, Asn1, CheckXml, CheckDer, CanonXml, XmlToDer, DerToXml}
use Rattle.repo_engine.specs.declared.refusal.Refusal.TheVariants.{Repository, Codes, Message, Instance}
use Rattle.repo_engine.proofs.Performing.{one_command}

-- a step and what goes on from what it gives have one verdict
pub one_then : (V A : Type 0) (Refuses : V → Type 0) (Gives : A → Type 0) (Next : A → V → Type 0) → IsStep V A Refuses Gives → ((a : A) → Gives a → One V (Next a)) → One V (Then V A Refuses Gives Next)
one_then V A Refuses Gives Next step next v w (refused h) (refused k) = step.one_refusal v w h k
one_then V A Refuses Gives Next step next v w (refused h) (goes_on b k more) = absurd (step.apart v b h k)
one_then V A Refuses Gives Next step next v w (goes_on a h more) (refused k) = absurd (step.apart w a k h)
one_then V A Refuses Gives Next step next v w (goes_on a h more) (goes_on b k also) =
    next a h v w more (subst (λ x. Next x w) (step.one_gift b a k h) also)

-- where a step gives something, a verdict is of what goes on from that
then_given : (V A : Type 0) (Refuses : V → Type 0) (Gives : A → Type 0) (Next : A → V → Type 0) → IsStep V A Refuses Gives → (a : A) → Gives a → (v : V) → Then V A Refuses Gives Next v → Next a v
then_given V A Refuses Gives Next step a gives v (refused h) = absurd (step.apart v a h gives)
then_given V A Refuses Gives Next step a gives v (goes_on b k more) = subst (λ x. Next x v) (step.one_gift b a k gives) more

module _ (laws : StepLaws) where
  file_step : (r : List ℕ) → IsStep Verdict Contents (TellsFileFault r) (Spells r)
  file_step r = record {
    one_refusal = λ v w (f, h, is) (g, k, also). is ∙ (ap (λ x. verdict.refused (Repository x) []) (laws.one_load_fault r f g h k) ∙ sym also);
    one_gift = laws.one_repository r;
    apart = λ v own (f, h, is) spells. laws.spelled_has_none r own f spells h;
  }

  codes_step : (codes_word : List ℕ) (own : Contents) (c : List ℕ) → IsStep Verdict Contents (RefusesCodes codes_word own c) (GivesJoined codes_word own c)
  codes_step codes_word own c = record { one_refusal = one; one_gift = gift; apart = apart }
    where
      one : One Verdict (RefusesCodes codes_word own c)
      one v w (on, (f, h, is)) (also_on, (g, k, also)) = is ∙ (ap (λ (x : CodesFault). verdict.refused (Codes x.rule x.number) []) (laws.one_codes_fault own c f g h k) ∙ sym also)

      gift : One Contents (GivesJoined codes_word own c)
      gift a b (inl (off, is)) (inl (also_off, also)) = is ∙ sym also
      gift a b (inl (off, is)) (inr (on, joins)) = absurd cc
      gift a b (inr (on, joins)) (inl (off, is)) = absurd cc
      gift a b (inr (on, joins)) (inr (also_on, also)) = laws.one_joined own c a b joins also

      apart : (v : Verdict) (R : Contents) → RefusesCodes codes_word own c v → GivesJoined codes_word own c R → ⊥
      apart v R (on, (f, h, is)) (inl (off, same)) = cc
      apart v R (on, (f, h, is)) (inr (also_on, joins)) = laws.joined_has_none own c R f joins h

  message_step : (R : Contents) (id : List ℕ) → IsStep Verdict Tables (RefusesMessage R id) (GivesTables R id)
  message_step R id = record { one_refusal = one; one_gift = gift; apart = λ v T (r, p, f, is) (ready, more). laws.ready_is_not_refused R id r p ready f }
    where
      one : One Verdict (RefusesMessage R id)
      one v w (r, p, f, is) (s, q, g, also) =
          let both = laws.one_refusal R id r s p q f g in
          let same : verdict.refused (Message (message_rule_number r) (place_id id p)) [] ≡ verdict.refused (Message (message_rule_number s) (place_id id q)) [] =
          λ i. verdict.refused (Message (message_rule_number (both.0 i)) (place_id id (both.1 i))) [] in
          is ∙ (same ∙ sym also)

      gift : One Tables (GivesTables R id)
      gift T U (ready, (ids, reached, made)) (also_ready, (others, more, also)) = laws.one_model R id ids others T U ready reached made more also

  pub message_goes_on : (codes_word id r c : List ℕ) (Next : Tables → Verdict → Type 0) (T : Tables) (v : Verdict) → GivesMessage codes_word id r c T → FromMessage codes_word id r c Next v → Next T v
  message_goes_on codes_word id r c Next T v (R, (own, spells, joined), tables) from =
      then_given Verdict Tables (RefusesMessage R id) (GivesTables R id) Next (message_step R id) T tables v
      (then_given Verdict Contents (RefusesCodes codes_word own c) (GivesJoined codes_word own c) (λ S. Then Verdict Tables (RefusesMessage S id) (GivesTables S id) Next) (codes_step codes_word own c) R joined v
      (then_given Verdict Contents (TellsFileFault r) (Spells r) (λ S. Then Verdict Contents (RefusesCodes codes_word S c) (GivesJoined codes_word S c) (λ S. Then Verdict Tables (RefusesMessage S id) (GivesTables S id) Next)) (file_step r) own spells v from))

  -- ---- what a command does with the tables

  xml_step : (T : Tables) (i : List ℕ) → HaveOneVerdict T i → IsStep Verdict Value (RefusesAsXml T i) (GivesXmlValue T i)
  xml_step T i have = record {
    one_refusal = λ v w (f, h, is) (g, k, also). is ∙ (ap (λ x. verdict.refused (Instance x) []) (have.one f g h k) ∙ sym also);
    one_gift = λ v w (s, short) (r, within). have.value v w s r;
    apart = λ v value (f, h, is) (s, short). have.none f ((value, s), short) h;
  }

  der_step : (T : Tables) (i : List ℕ) → HaveOneDerVerdict T i → IsStep Verdict Value (RefusesAsDer T i) (GivesDerValue T i)
  der_step T i have = record {
    one_refusal = λ v w (f, h, is) (g, k, also). is ∙ (ap (λ x. verdict.refused (Instance x) []) (have.one f g h k) ∙ sym also);
    one_gift = λ v w (s, short) (r, within). have.value v w s r;
    apart = λ v value (f, h, is) (s, short). have.none f ((value, s), short) h;
  }

  one_xml : (T : Tables) (value : Value) → One Verdict (GivesXml T value)
  one_xml T value v w (a, h, is) (b, k, also) = is ∙ (ap verdict.accepted (laws.one_canonical_xml (message_of T) value a b h k) ∙ sym also)

  from_xml : (T : Tables) (i : List ℕ) (Next : Value → Verdict → Type 0) → AreSoundTypes T → ((value : Value) → One Verdict (Next value)) → One Verdict (FromXml T i Next)
  from_xml T i Next sound next = one_then Verdict Value (RefusesAsXml T i) (GivesXmlValue T i) Next (xml_step T i (laws.one_verdict T i sound)) (λ value gives. next value)

  from_der : (T : Tables) (i : List ℕ) (Next : Value → Verdict → Type 0) → AreSoundTypes T → ((value : Value) → One Verdict (Next value)) → One Verdict (FromDer T i Next)
  from_der T i Next sound next = one_then Verdict Value (RefusesAsDer T i) (GivesDerValue T i) Next (der_step T i (laws.one_der_verdict T i sound)) (λ value gives. next value)

  sound_types : (R : Contents) (id : List ℕ) (T : Tables) → GivesTables R id T → AreSoundTypes T
  sound_types R id T (ready, (ids, reached, made)) = laws.compiled_are_sound R id ids T ready reached made

  one_verb : (verb : Verb) (R : Contents) (id i : List ℕ) (T : Tables) → GivesTables R id T → One Verdict (IsVerdictOfVerb verb i T)
  one_verb Types R id i T gives = λ v w is also. is ∙ sym also
  one_verb Xsd R id i T gives = λ v w is also. is ∙ sym also
  one_verb Asn1 R id i T gives = λ v w is also. is ∙ sym also
  one_verb CheckXml R id i T gives = from_xml T i IsFine (sound_types R id T gives) (λ value v w is also. is ∙ sym also)
  one_verb CheckDer R id i T gives = from_der T i IsFine (sound_types R id T gives) (λ value v w is also. is ∙ sym also)
  one_verb CanonXml R id i T gives = from_xml T i (GivesXml T) (sound_types R id T gives) (one_xml T)
  one_verb XmlToDer R id i T gives = from_xml T i (GivesDer T) (sound_types R id T gives) (λ value v w is also. is ∙ sym also)
  one_verb DerToXml R id i T gives = from_der T i (GivesXml T) (sound_types R id T gives) (one_xml T)

  -- ---- a command

  one_from_repository : (codes_word r c : List ℕ) (Next : Contents → Verdict → Type 0) → ((R : Contents) → One Verdict (Next R)) → One Verdict (FromRepository codes_word r c Next)
  one_from_repository codes_word r c Next next =
      one_then Verdict Contents (TellsFileFault r) (Spells r) (λ own. Then Verdict Contents (RefusesCodes codes_word own c) (GivesJoined codes_word own c) Next) (file_step r)
      (λ own spells. one_then Verdict Contents (RefusesCodes codes_word own c) (GivesJoined codes_word own c) Next (codes_step codes_word own c) (λ R joined. next R))

  one_drilled : (number size : ℕ) (a b : Drilled) → IsDrilled number size a → IsDrilled number size b → a ≡ b
  one_drilled number size a b is also =
      let nodes : a.nodes ≡ b.nodes = is.nodes ∙ sym also.nodes in
      let depth : a.depth ≡ b.depth = is.depth ∙ sym also.depth in
      let texts = laws.one_canonical_xml (message_of drill_tables) (instance number size) is.xml.0 also.xml.0 is.xml.1 also.xml.1 in
      let xml : a.xml ≡ b.xml = is.xml.2 ∙ (ap length texts ∙ sym also.xml.2) in
      let der : a.der ≡ b.der = is.der ∙ sym also.der in
      λ i. record { nodes = nodes i; depth = depth i; xml = xml i; der = der i }

  one_drill : (number size : ℕ) → One Verdict (Drills number size)
  one_drill number size v w (a, h, is) (b, k, also) = is ∙ (ap (λ d. verdict.accepted (drill_text d)) (one_drilled number size a b h k) ∙ sym also)

  one_of : (command : Command) (r c i : List ℕ) → One Verdict (IsVerdictOf command r c i)
  one_of (list codes_word) r c i = one_from_repository codes_word r c _ (λ R v w is also. is ∙ sym also)
  one_of (message verb codes_word id) r c i =
      one_from_repository codes_word r c (λ R. Then Verdict Tables (RefusesMessage R id) (GivesTables R id) (IsVerdictOfVerb verb i))
      (λ R. one_then Verdict Tables (RefusesMessage R id) (GivesTables R id) (IsVerdictOfVerb verb i) (message_step R id) (λ T gives. one_verb verb R id i T gives))
  one_of (drill number size) r c i = one_drill number size

  pub one_answer : (ws : List (List ℕ)) (r c i : List ℕ) (v w : Verdict) → Answer ws r c i v → Answer ws r c i w → v ≡ w
  one_answer ws r c i v w (inl (unlisted, is)) (inl (also_unlisted, also)) = is ∙ sym also
  one_answer ws r c i v w (inl (unlisted, is)) (inr (command, form, of)) = absurd (unlisted command form)
  one_answer ws r c i v w (inr (command, form, of)) (inl (unlisted, is)) = absurd (unlisted command form)
  one_answer ws r c i v w (inr (command, form, of)) (inr (other, also, more)) =
      one_of command r c i v w of (subst (λ x. IsVerdictOf x r c i w) (one_command ws other command also form) more)
