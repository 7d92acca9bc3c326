-- What the laws on canonical XML say.
use Rattle.std.specs.Prelude.{◌≡◌, ℕ, List}
use Rattle.data_types.specs.Value.{Value}
use Rattle.message_model.specs.Admits.{AdmitsAs}
use Rattle.message_model.specs.Message.{Message}
use Rattle.xml_writer.specs.CanonXml.{IsCanonXml}

-- A value that the types admit has a canonical XML.
abbrev pub SomeCanonicalXml : Type 0
SomeCanonicalXml = (m : Message ℕ) (v : Value) → AdmitsAs m.forms (m.forms m.root) v → (bytes : List ℕ) × IsCanonXml m v bytes

-- A value has at most one canonical XML.
abbrev pub OneCanonicalXml : Type 0
OneCanonicalXml = (m : Message ℕ) (v : Value) (one two : List ℕ) → IsCanonXml m v one → IsCanonXml m v two → one ≡ two
