-- What a drill tells.
use Rattle.std.specs.Prelude.{◌≡◌, ℕ, ◌+◌, ◌≤◌, ◌^◌, List, [], ◌∷◌, length}
use Rattle.message_model.specs.Admits.{AdmitsAs}
use Rattle.message_model.specs.Compiled.{Compiles, IsReachedList}
use Rattle.message_model.specs.Ready.{IsReady}
use Rattle.message_model.specs.Tables.{message_of, types_of}
use Rattle.der_model.specs.DerMessage.{der_message}
use Rattle.der_model.specs.Der.{SpellsDer, der_of}
use Rattle.xml_instances.specs.SpellsXml.{SpellsXml}
use Rattle.xml_writer.specs.CanonXml.{IsCanonXml}
use Rattle.xml_writer.specs.SpellingLaw.{HasNoLongTag}
use Rattle.drill.specs.BuiltIn.{contents, message_id, drill_tables, text_id, node_id}
use Rattle.drill.specs.Growing.{instance, deepest, most_beside}
use Rattle.drill.specs.declared.drilling.Drilled.{Drilled}

-- how many nodes there are, how many one in the other, and the lengths of the instance in canonical XML and in DER
pub record IsDrilled (number size : ℕ) (d : Drilled) : Type 0 where
  pub nodes : d.nodes ≡ size + 1
  pub depth : d.depth ≡ deepest number size
  pub xml : (text : List ℕ) × IsCanonXml (message_of drill_tables) (instance number size) text × (d.xml ≡ length text)
  pub der : d.der ≡ length (der_of (der_message drill_tables) (instance number size))

-- ---- laws

-- the message breaks no rule, and is compiled to these tables
pub record IsTreeCompiled : Type 0 where
  pub ready : IsReady contents message_id
  pub reached : IsReachedList contents message_id (text_id ∷ (node_id ∷ []))
  pub compiles : Compiles contents message_id (text_id ∷ (node_id ∷ [])) drill_tables

-- the message admits the instance
abbrev pub IsAdmitted : Type 0
IsAdmitted = (number size : ℕ) → size ≤ most_beside → AdmitsAs (types_of drill_tables) (types_of drill_tables 0) (instance number size)

-- its canonical XML, and its DER, can be read: no tag is too long, and neither has more bytes than an instance has at most
abbrev pub XmlIsReadable : Type 0
XmlIsReadable = (number size : ℕ) (text : List ℕ) → size ≤ most_beside → IsCanonXml (message_of drill_tables) (instance number size) text → HasNoLongTag text × (length text ≤ 2 ^ 40)

abbrev pub DerIsReadable : Type 0
DerIsReadable = (number size : ℕ) → size ≤ most_beside → length (der_of (der_message drill_tables) (instance number size)) ≤ 2 ^ 40

-- both forms are read back as the instance
abbrev pub BothComeBack : Type 0
BothComeBack = (number size : ℕ) (text : List ℕ) → size ≤ most_beside → IsCanonXml (message_of drill_tables) (instance number size) text
    → SpellsXml (message_of drill_tables) text (instance number size) × SpellsDer (der_message drill_tables) (der_of (der_message drill_tables) (instance number size)) (instance number size)
