use Rattle.lexical_core.specs.Characters.{IsXmlChar}
use Rattle.lexical_core.proofs.CharacterLemmas.{IsScalar-xml_char}
use Rattle.lexical_core.proofs.ReadSoFar.{Stops-char, Stops-bad}
use Rattle.lexical_core.proofs.xml_text.takes_xml_char.Goals as goal

pub returns-in-Char-clause-stops : goal.returns-in-Char-clause-stops
returns-in-Char-clause-stops c = λ none. Stops-char IsXmlChar _ _ _ _ c.in-Char.ensures (λ p. none (c.is_xml_char.ensures.1 p))

pub returns-in-Bad-clause-stops : goal.returns-in-Bad-clause-stops
returns-in-Bad-clause-stops c = λ none. Stops-bad IsXmlChar IsScalar-xml_char _ _ _ c.in-Bad.ensures
