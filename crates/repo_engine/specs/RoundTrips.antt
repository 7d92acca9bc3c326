-- That nothing is lost on the way from one form to the other and back.
use Rattle.std.specs.Prelude.{◌≡◌, ◌↔◌, ◌≤◌, ℕ, List, length}
use Rattle.repo_objects.specs.MessageId.{IsMessageId}
use Rattle.repo_objects.specs.Repository.{Contents}
use Rattle.message_model.specs.Tables.{Tables}
use Rattle.xml_writer.specs.SpellingLaw.{HasNoLongTag}
use Rattle.transcoder.specs.Limited.{most_bytes}
use Rattle.repo_engine.specs.Answer.{IsVerdictOfVerb, GivesTables}
use Rattle.repo_engine.specs.Verdict.{Verdict, accepted}
use Rattle.repo_engine.specs.declared.command.Verb.TheVariants.{CanonXml, XmlToDer, DerToXml}

-- What `der-to-xml` answers to the DER that `xml-to-der` writes of an instance is what `canon-xml` answers to the instance.
abbrev pub XmlComesBack : Type 0
XmlComesBack = (R : Contents) (id : List ℕ) (T : Tables) (xml der : List ℕ) → GivesTables R id T → IsVerdictOfVerb XmlToDer xml T (accepted der) → length der ≤ most_bytes
    → (v : Verdict) → IsVerdictOfVerb DerToXml der T v ↔ IsVerdictOfVerb CanonXml xml T v

-- What `xml-to-der` answers to the XML that `der-to-xml` writes of an instance is the same instance in DER, where no tag is too long to be read.
abbrev pub DerComesBack : Type 0
DerComesBack = (R : Contents) (id : List ℕ) (T : Tables) (der xml : List ℕ) → IsMessageId id → GivesTables R id T → IsVerdictOfVerb DerToXml der T (accepted xml) → HasNoLongTag xml → length xml ≤ most_bytes
    → (v : Verdict) → IsVerdictOfVerb XmlToDer xml T v ↔ (v ≡ accepted der)
