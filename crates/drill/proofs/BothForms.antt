-- Both texts of an instance can be read.
use Rattle.std.proofs.Common.{◌≡◌, ℕ, ◌≤◌, List, [], ◌∷◌, length, refl, subst, sym}
use Rattle.message_model.specs.Admits.{AdmitsAs}
use Rattle.message_model.specs.Tables.{Tables, message_of, types_of}
use Rattle.der_model.specs.Der.{der_of}
use Rattle.der_model.specs.DerMessage.{der_message}
use Rattle.xml_writer.specs.CanonXml.{IsCanonXml}
use Rattle.xml_writer.specs.SpellingLaw.{CompiledSpells}
use Rattle.transcoder.specs.Limited.{most_bytes}
use Rattle.drill.specs.BuiltIn.{contents, message_id, node_id, drill_tables, text_id}
use Rattle.drill.specs.Drilled.{DerIsReadable, IsAdmitted, IsTreeCompiled, XmlIsReadable}
use Rattle.drill.specs.inner.Forms.{AreForms}
use Rattle.drill.specs.Growing.{instance, most_beside}

-- the same of tables that are these
pub admitted_by : (T : Tables) (number size : ℕ) → T ≡ drill_tables → IsAdmitted → size ≤ most_beside → AdmitsAs (types_of T) (types_of T 0) (instance number size)
admitted_by T number size is admits small = subst (λ t. AdmitsAs (types_of t) (types_of t 0) (instance number size)) (sym is) (admits number size small)

-- where the message is compiled to its tables, the texts of an instance are its two forms
pub both_forms : (number size : ℕ) (xml der : List ℕ) → IsTreeCompiled → IsAdmitted → XmlIsReadable → DerIsReadable → CompiledSpells → size ≤ most_beside
    → IsCanonXml (message_of drill_tables) (instance number size) xml → der ≡ der_of (der_message drill_tables) (instance number size) → AreForms drill_tables (instance number size) xml der
both_forms number size xml der compiled admits xml_reads der_reads spells small xml_is der_is =
    let admitted = admits number size small in
    let readable = xml_reads number size xml small xml_is in
    record {
      admitted = admitted;
      xml_is = xml_is;
      xml_spells = spells contents message_id (text_id ∷ (node_id ∷ [])) drill_tables (instance number size) xml refl compiled.ready compiled.reached compiled.compiles admitted xml_is readable.0;
      xml_within = readable.1;
      der_is = der_is;
      der_within = subst (λ l. length l ≤ most_bytes) (sym der_is) (der_reads number size small);
    }
