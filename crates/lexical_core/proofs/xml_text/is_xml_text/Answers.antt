use Rattle.std.proofs.Common.{Bool, true, false, IsTrue, refl, arith}
use Rattle.lexical_core.specs.Characters.{IsXmlChar}
use Rattle.lexical_core.proofs.ReadSoFar.{ReadTo-goes, ReadTo-stops, ReadTo-whole, ReadTo-cut}
use Rattle.lexical_core.proofs.xml_text.is_xml_text.Goals as goal

-- a test that cannot fail is true
by_no_failure : (b : Bool) → ((IsTrue b → ⊥) → ⊥) → IsTrue b
by_no_failure true h = refl
by_no_failure false h = absurd (h (λ e. cc))

pub returns-then-not-takes_xml_char : goal.returns-then-not-takes_xml_char
returns-then-not-takes_xml_char c = (
  λ e. cc,
  λ text. absurd (ReadTo-stops IsXmlChar c.loop-byte.byte-index c.args.bytes.now c.loop-byte.step (omega arith) c.loop-byte.invariant
      (c.takes_xml_char.ensures.stops (λ t. cc)) text),
)

pub loop-byte-preserved : goal.loop-byte-preserved
loop-byte-preserved c =
    ReadTo-goes IsXmlChar c.loop-byte.byte-index c.args.bytes.now c.loop-byte.step _ (omega arith) c.loop-byte.invariant
    (c.takes_xml_char.ensures.goes c.if-not-takes_xml_char.false)

pub returns : goal.returns
returns c = (
  λ e. ReadTo-whole IsXmlChar c.args.bytes.now c.loop-byte.byte-index c.loop-byte.step (omega arith) c.loop-byte.invariant (c.is_whole.ensures.0 e),
  λ text. by_no_failure c.is_whole.result (λ none. ReadTo-cut IsXmlChar c.args.bytes.now c.loop-byte.byte-index c.loop-byte.step (omega arith)
      c.loop-byte.invariant (λ e. none (c.is_whole.ensures.1 e)) text),
)
