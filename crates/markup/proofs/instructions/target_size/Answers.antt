-- What begins with a byte that a name may begin with is a name, and a target where it is not `xml`.
use Rattle.std.proofs.Common.{sym, ◌∙◌}
use Rattle.std.proofs.lemmas.Bool.{both_ways}
use Rattle.markup.proofs.StartScans.{name_is_plain}
use Rattle.markup.proofs.InstructionTexts.{target_found, target_is}
use Rattle.markup.proofs.instructions.target_size.Goals as goal

pub returns-then-is_xml_word-clause-all : goal.returns-then-is_xml_word-clause-all
returns-then-is_xml_word-clause-all c target behind p e s =
    let k = target_is c.args.piece.now target behind c.split_at.result.0.now c.name_length-size.result p e s c.name_length-size.ensures.count c.split_at.ensures.front in
    absurd (both_ways _ k.2 (sym c.is_xml_word.ensures ∙ c.if-is_xml_word.true))

pub returns-else-is_xml_word-clause-named : goal.returns-else-is_xml_word-clause-named
returns-else-is_xml_word-clause-named c some =
    target_found c.args.piece.now c.split_at.result.0.now c.name_length-size.result c.split_at.ensures.front
    (name_is_plain c.in-Some.first.now c.args.piece.now c.in-Some.field-0-1.now c.name_length-size.result c.in-Some.ensures.cases.0 (sym c.begins_plain.ensures ∙ c.if-not-begins_plain.false) c.name_length-size.ensures.count)
    (sym c.is_xml_word.ensures ∙ c.if-is_xml_word.false)

pub returns-else-is_xml_word-clause-all : goal.returns-else-is_xml_word-clause-all
returns-else-is_xml_word-clause-all c target behind p e s =
    let k = target_is c.args.piece.now target behind c.split_at.result.0.now c.name_length-size.result p e s c.name_length-size.ensures.count c.split_at.ensures.front in (k.0, k.1)
