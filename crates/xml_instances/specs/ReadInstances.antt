-- What a reader of an instance was given: it is a checker that keeps pieces.
use Rattle.std.specs.Prelude.{ℕ, List, Option}
use Rattle.message_model.specs.Tables.{Tables}
use Rattle.message_model.specs.declared.fault.InstanceError.{InstanceError}
use Rattle.xml_instances.specs.Checking.{HasFedXml, IsXmlCheckerFor, xml_bytes_fed, xml_failure}
use Rattle.xml_instances.specs.Scratch.{scratch, checker_token, KeepsNoPieces, HoldsNoEndedLeaf, HasLetGo}
use Rattle.xml_instances.specs.declared.reader.XmlReader.{XmlReader}

-- the reader goes on: it was given these bytes, and none of their events breaks a rule
abbrev pub HasFedReader : XmlReader → Tables → List ℕ → Type 0
HasFedReader reader T bytes = HasFedXml reader.checker T bytes

-- what the reader keeps for leaves is for the types of these tables, as it is of one that was made for their message
abbrev pub IsXmlReaderFor : XmlReader → Tables → Type 0
IsXmlReaderFor reader T = IsXmlCheckerFor reader.checker T

-- how many bytes the reader was given
abbrev pub reader_fed : XmlReader → ℕ
reader_fed reader = xml_bytes_fed reader.checker

-- the answer that it gives for good, where there is one
abbrev pub reader_failed : XmlReader → Option InstanceError
reader_failed reader = xml_failure reader.checker

-- how many bytes it holds for the text of the open leaf
abbrev pub reader_scratch : XmlReader → ℕ
reader_scratch reader = scratch reader.checker

-- and for the open token
abbrev pub reader_token : XmlReader → ℕ
reader_token reader = checker_token reader.checker

-- of leaves it holds no more than `scratch` counts, beside the pieces
abbrev pub HoldsOpenLeafAlone : XmlReader → Type 0
HoldsOpenLeafAlone reader = HoldsNoEndedLeaf reader.checker

-- the reader holds no event, and no judge of a leaf
abbrev pub HasReaderLetGo : XmlReader → Type 0
HasReaderLetGo reader = HasLetGo reader.checker

-- the reader keeps no pieces
abbrev pub IsReaderBare : XmlReader → Type 0
IsReaderBare reader = KeepsNoPieces reader.checker
