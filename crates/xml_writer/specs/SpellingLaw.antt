-- When canonical XML spells its value.
use Rattle.std.specs.Prelude.{◌≡◌, ◌≢◌, ℕ, true, List, [], flat_map, slice_get, Some}
use Rattle.std.specs.List.{AllByRecursion}
use Rattle.lexical_core.specs.Characters.{IsXmlText}
use Rattle.lexical_core.specs.Names.{xml_namespace, xmlns_namespace}
use Rattle.data_types.specs.Value.{Value}
use Rattle.markup.specs.Token.{Token}
use Rattle.markup.specs.Marks.{Front, is_short, tag_limit}
use Rattle.fragments.specs.Plain.{IsPart}
use Rattle.fragments.specs.Fragment.{value_byte}
use Rattle.repo_objects.specs.MessageId.{IsMessageId}
use Rattle.repo_objects.specs.Repository.{Contents}
use Rattle.reference_check.specs.Forms.{Slot, form_slots}
use Rattle.message_model.specs.Admits.{AdmitsAs}
use Rattle.message_model.specs.Compiled.{IsReachedList, Compiles}
use Rattle.message_model.specs.Message.{Message}
use Rattle.message_model.specs.Ready.{IsReady}
use Rattle.message_model.specs.Tables.{Tables, types_of, message_of}
use Rattle.xml_instances.specs.SpellsXml.{SpellsXml}
use Rattle.xml_writer.specs.CanonXml.{IsCanonXml}

-- Each tag is a name without a colon (Namespaces in XML 1.0 §3, NCName); the namespace is of characters of XML that stand for
-- themselves in the value of an attribute, and is none of the two that are reserved.
pub record HasXmlNames {P : Type 0} (m : Message P) : Type 0 where
  pub tags : (p : P) (k : ℕ) (s : Slot P) → slice_get (form_slots (m.forms p)) k ≡ Some s → IsPart s.tag
  pub namespace : IsXmlText m.namespace
  pub literal : flat_map value_byte m.namespace ≡ m.namespace
  pub no_xml : m.namespace ≢ xml_namespace
  pub no_declaration : m.namespace ≢ xmlns_namespace

-- of the bytes, as tokens whose tags have at most so many bytes, however many, no tag has more than 1,048,576 bytes
abbrev pub HasNoLongTag : List ℕ → Type 0
HasNoLongTag bytes = (limit : ℕ) (tokens : List Token) → Front limit [] bytes tokens [] → AllByRecursion (λ t. is_short tag_limit t ≡ true) tokens

-- The canonical XML of a value that is admitted spells the value, where no tag is too long.
abbrev pub CanonicalSpells : Type 0
CanonicalSpells = (m : Message ℕ) (v : Value) (bytes : List ℕ) → HasXmlNames m → AdmitsAs m.forms (m.forms m.root) v → IsCanonXml m v bytes → HasNoLongTag bytes
    → SpellsXml m bytes v

-- The same of a message that breaks no rule of its repository: its names are names of XML.
abbrev pub CompiledSpells : Type 0
CompiledSpells = (R : Contents) (m : List ℕ) (ids : List (List ℕ)) (T : Tables) (v : Value) (bytes : List ℕ) → IsMessageId m → IsReady R m → IsReachedList R m ids → Compiles R m ids T
    → AdmitsAs (types_of T) (types_of T 0) v → IsCanonXml (message_of T) v bytes → HasNoLongTag bytes → SpellsXml (message_of T) bytes v
