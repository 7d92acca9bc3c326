-- The text that is found is one of XML.
use Rattle.reference_check.proofs.Sizes.{code_is_xml}
use Rattle.reference_check.proofs.counts.has_long_text.Goals as goal

pub is_long-requires : goal.is_long-requires
is_long-requires c = code_is_xml _ c.args.object.now c.args.code.now _ c.requires.whole c.requires.texts (rw c.in-Some.is at c.in_ok-text.ensures.text)
