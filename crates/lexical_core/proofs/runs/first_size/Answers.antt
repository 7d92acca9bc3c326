use Rattle.lexical_core.proofs.XmlRuns.{begun_none, begun_more, begun_char, begun_stops, begun_ends}
use Rattle.lexical_core.proofs.runs.first_size.Goals as goal

pub loop-at-init : goal.loop-at-init
loop-at-init c = begun_none _ _ c.new-step.ensures

pub returns-then-not-takes_xml_char-clause-none : goal.returns-then-not-takes_xml_char-clause-none
returns-then-not-takes_xml_char-clause-none c =
    begun_stops c.args.piece.now c.loop-at.at c.loop-at.step c.loop-at-test.true c.loop-at.invariant (c.takes_xml_char.ensures.stops (λ t. cc))

pub returns-then-is_whole-clause-some : goal.returns-then-is_whole-clause-some
returns-then-is_whole-clause-some c =
    begun_char c.args.piece.now c.loop-at.at c.loop-at.step c.takes_xml_char.new.step c.loop-at-test.true c.loop-at.invariant
    (c.takes_xml_char.ensures.goes c.if-not-takes_xml_char.false) (c.is_whole.ensures.0 c.if-is_whole.true)

pub loop-at-preserved : goal.loop-at-preserved
loop-at-preserved c =
    begun_more c.args.piece.now c.loop-at.at c.loop-at.step c.takes_xml_char.new.step c.loop-at-test.true c.loop-at.invariant
    (c.takes_xml_char.ensures.goes c.if-not-takes_xml_char.false) (λ e. let yes = c.is_whole.ensures.1 e in let no = c.if-is_whole.false in cc)

pub returns-clause-none : goal.returns-clause-none
returns-clause-none c = begun_ends c.args.piece.now c.loop-at.at c.loop-at.step c.loop-at-test.false c.loop-at.invariant
