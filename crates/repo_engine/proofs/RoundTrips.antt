-- An instance is the same value in both forms, and each form is that of one value.
use Rattle.std.proofs.Common.{◌≡◌, ◌↔◌, ◌≤◌, ℕ, List, length, sym, ap, subst, ◌∙◌}
use Rattle.data_types.specs.Value.{Value}
use Rattle.repo_objects.specs.Repository.{Contents}
use Rattle.message_model.specs.Laws.{CompiledAreSound}
use Rattle.message_model.specs.Tables.{Tables, message_of}
use Rattle.der_model.specs.DerMessage.{der_message}
use Rattle.der_model.specs.Der.{SpellsDer, der_of}
use Rattle.xml_instances.specs.SpellsXml.{SpellsXml}
use Rattle.xml_writer.specs.CanonXml.{IsCanonXml}
use Rattle.xml_writer.specs.SpellingLaw.{CompiledSpells}
use Rattle.transcoder.specs.Limited.{most_bytes}
use Rattle.transcoder.specs.Laws.{OneVerdict, HaveOneVerdict, OneDerVerdict, HaveOneDerVerdict, AreSoundTypes}
use Rattle.repo_engine.specs.Answer.{IsVerdictOfVerb, GivesXml, GivesTables}
use Rattle.repo_engine.specs.RoundTrips.{XmlComesBack, DerComesBack}
use Rattle.repo_engine.specs.Steps.{refused, goes_on}
use Rattle.repo_engine.specs.Verdict.{Verdict, accepted}
use Rattle.repo_engine.specs.Verdict as verdict
use Rattle.repo_engine.specs.declared.command.Verb.TheVariants.{CanonXml, XmlToDer, DerToXml}

abbrev text_of : Verdict → List ℕ
text_of (accepted text) = text
text_of (verdict.refused refusal text) = text

sound_types : CompiledAreSound → (R : Contents) (id : List ℕ) (T : Tables) → GivesTables R id T → AreSoundTypes T
sound_types sound R id T (ready, (ids, reached, made)) = sound R id ids T ready reached made

-- both forms spell the same value
module _ (T : Tables) (xml der : List ℕ) (w : Value)
    (one_xml : HaveOneVerdict T xml) (one_der : HaveOneDerVerdict T der)
    (xml_is : SpellsXml (message_of T) xml w) (xml_short : length xml ≤ most_bytes)
    (der_is : SpellsDer (der_message T) der w) (der_short : length der ≤ most_bytes) where
  same_answers : (v : Verdict) → IsVerdictOfVerb DerToXml der T v ↔ IsVerdictOfVerb CanonXml xml T v
  same_answers v = (there, back)
    where
      there : IsVerdictOfVerb DerToXml der T v → IsVerdictOfVerb CanonXml xml T v
      there (refused (f, faulty, is)) = absurd (one_der.none f ((w, der_is), der_short) faulty)
      there (goes_on a (spelled, short) more) = goes_on w (xml_is, xml_short) (subst (λ x. GivesXml T x v) (one_der.value a w spelled der_is) more)

      back : IsVerdictOfVerb CanonXml xml T v → IsVerdictOfVerb DerToXml der T v
      back (refused (f, faulty, is)) = absurd (one_xml.none f ((w, xml_is), xml_short) faulty)
      back (goes_on a (spelled, short) more) = goes_on w (der_is, der_short) (subst (λ x. GivesXml T x v) (one_xml.value a w spelled xml_is) more)

pub xml_comes_back : CompiledAreSound → OneVerdict → OneDerVerdict → XmlComesBack
xml_comes_back sound one_verdict one_der_verdict R id T xml der gives (refused (f, faulty, is)) short = absurd cc
xml_comes_back sound one_verdict one_der_verdict R id T xml der gives (goes_on w (spelled, xml_short) is) short =
    let types = sound_types sound R id T gives in
    same_answers T xml der w (one_verdict T xml types) (one_der_verdict T der types) spelled xml_short (spelled.instance.admitted, ap text_of is) short

-- what `xml-to-der` answers to XML of a value
der_answer : (T : Tables) (xml der : List ℕ) (w : Value) → HaveOneVerdict T xml → SpellsXml (message_of T) xml w → length xml ≤ most_bytes → der ≡ der_of (der_message T) w
    → (v : Verdict) → IsVerdictOfVerb XmlToDer xml T v ↔ (v ≡ accepted der)
der_answer T xml der w one_xml xml_is xml_short same v = (there, λ is. goes_on w (xml_is, xml_short) (is ∙ ap accepted same))
  where
    there : IsVerdictOfVerb XmlToDer xml T v → v ≡ accepted der
    there (refused (f, faulty, is)) = absurd (one_xml.none f ((w, xml_is), xml_short) faulty)
    there (goes_on a (spelled, short) is) = is ∙ (ap (λ x. accepted (der_of (der_message T) x)) (one_xml.value a w spelled xml_is) ∙ ap accepted (sym same))

pub der_comes_back : CompiledAreSound → OneVerdict → CompiledSpells → DerComesBack
der_comes_back sound one_verdict spells R id T der xml is_id gives (refused (f, faulty, is)) no_long short = absurd cc
der_comes_back sound one_verdict spells R id T der xml is_id (ready, (ids, reached, made)) (goes_on w ((admits, same), der_short) (text, canonical, is)) no_long short =
    let written = subst (λ t. IsCanonXml (message_of T) w t) (sym (ap text_of is)) canonical in
    let spelled = spells R id ids T w xml is_id ready reached made admits written no_long in
    der_answer T xml der w (one_verdict T xml (sound R id ids T ready reached made)) spelled short same
