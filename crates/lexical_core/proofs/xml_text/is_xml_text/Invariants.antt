use Rattle.lexical_core.specs.Characters.{IsXmlChar}
use Rattle.lexical_core.proofs.ReadSoFar.{ReadTo}
use Rattle.lexical_core.proofs.xml_text.is_xml_text.Given as goal

abbrev pub invariant-loop-byte : goal.invariant-loop-byte
invariant-loop-byte l = ReadTo IsXmlChar l.byte-index l.bytes l.step
