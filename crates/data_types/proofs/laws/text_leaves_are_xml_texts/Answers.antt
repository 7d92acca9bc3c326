use Rattle.data_types.proofs.LeavesByKind.{text_leaves}
use Rattle.data_types.proofs.laws.text_leaves_are_xml_texts.Goals as goal

pub returns : goal.returns
returns c = text_leaves
