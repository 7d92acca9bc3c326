-- What the readings of an instance say of its bytes.
use Rattle.std.specs.Prelude.{◌≡◌, ℕ, ◌≤◌, List, length}
use Rattle.lexical_core.specs.declared.rule.Rule.TheVariants.{Truncated, DerTruncated}
use Rattle.data_types.specs.Value.{Value, Piece}
use Rattle.fragments.specs.Fragment.{fragment}
use Rattle.inst_pool.specs.Pieces.{Held}
use Rattle.message_model.specs.Tables.{Tables, message_of, pieces_of}
use Rattle.message_model.specs.declared.fault.Fault.{Fault}
use Rattle.der_model.specs.DerMessage.{der_message}
use Rattle.der_model.specs.Der.{SpellsDer, der_of}
use Rattle.der_model.specs.Faults.{DerFault}
use Rattle.der_codec.specs.Checking.{IsSpelledDer, der_fault_of}
use Rattle.xml_instances.specs.XmlFaults.{XmlFault}
use Rattle.xml_instances.specs.SpellsXml.{SpellsXml}
use Rattle.xml_instances.specs.Checking.{IsSpelledXml, xml_fault_of}
use Rattle.xml_writer.specs.CanonXml.{IsCanonXml}
use Rattle.transcoder.specs.declared.check_error.CheckError.{CheckError}
use Rattle.transcoder.specs.CheckErrors.{RefusesBy, IsOfSome}
use Rattle.transcoder.specs.Limited.{most_bytes, IsLimited}

-- ---- XML

-- They spell a value that the message admits, and are no more than the limit.
abbrev pub IsAccepted : Tables → List ℕ → Type 0
IsAccepted T bytes = IsSpelledXml T bytes × (length bytes ≤ most_bytes)

-- their first fault as XML, however many they are
abbrev pub IsXmlFault : Tables → List ℕ → Fault → Type 0
IsXmlFault T bytes fault = XmlFault (message_of T) bytes (xml_fault_of fault)

-- the same under the limit
abbrev pub HasXmlFault : Tables → List ℕ → Fault → Type 0
HasXmlFault T = IsLimited (IsXmlFault T) (IsSpelledXml T) Truncated

-- They have the fault; that a source failed is said by its count.
abbrev pub RefusesXml : Tables → List ℕ → CheckError → Type 0
RefusesXml T = RefusesBy (HasXmlFault T)

-- The fault is one of some bytes, also where the source does not tell its own.
abbrev pub IsFaultOfSome : Tables → CheckError → Type 0
IsFaultOfSome T = IsOfSome (HasXmlFault T)

-- ---- DER

abbrev pub IsDerAccepted : Tables → List ℕ → Type 0
IsDerAccepted T bytes = IsSpelledDer T bytes × (length bytes ≤ most_bytes)

abbrev pub IsDerFault : Tables → List ℕ → Fault → Type 0
IsDerFault T bytes fault = DerFault (der_message T) bytes (der_fault_of fault)

abbrev pub HasDerFault : Tables → List ℕ → Fault → Type 0
HasDerFault T = IsLimited (IsDerFault T) (IsSpelledDer T) DerTruncated

abbrev pub RefusesDer : Tables → List ℕ → CheckError → Type 0
RefusesDer T = RefusesBy (HasDerFault T)

abbrev pub IsDerFaultOfSome : Tables → CheckError → Type 0
IsDerFaultOfSome T = IsOfSome (HasDerFault T)

-- ---- what is kept of an instance, and what is written of it

-- the pieces are those of the value that the bytes are, by what it is to be a value's
abbrev pub HoldsAs : (List ℕ → Value → Type 0) → Tables → List ℕ → List Piece → Type 0
HoldsAs Spells T bytes pieces = (v : Value) × Spells bytes v × (pieces ≡ pieces_of fragment T v)

-- the instance holds the value that the bytes spell as XML
abbrev pub HoldsXml : Tables → List ℕ → Held → Type 0
HoldsXml T bytes instance = HoldsAs (SpellsXml (message_of T)) T bytes instance.region.pieces

-- the same of DER
abbrev pub HoldsDer : Tables → List ℕ → Held → Type 0
HoldsDer T bytes instance = HoldsAs (SpellsDer (der_message T)) T bytes instance.region.pieces

-- the text is the DER of the value that the bytes, no more than the limit, spell as XML; its canonical XML; and the canonical XML of one in DER
abbrev pub IsDerOfXml : Tables → List ℕ → List ℕ → Type 0
IsDerOfXml T bytes text = (v : Value) × SpellsXml (message_of T) bytes v × (length bytes ≤ most_bytes) × (text ≡ der_of (der_message T) v)

abbrev pub IsXmlOfXml : Tables → List ℕ → List ℕ → Type 0
IsXmlOfXml T bytes text = (v : Value) × SpellsXml (message_of T) bytes v × (length bytes ≤ most_bytes) × IsCanonXml (message_of T) v text

abbrev pub IsXmlOfDer : Tables → List ℕ → List ℕ → Type 0
IsXmlOfDer T bytes text = (v : Value) × SpellsDer (der_message T) bytes v × (length bytes ≤ most_bytes) × IsCanonXml (message_of T) v text
