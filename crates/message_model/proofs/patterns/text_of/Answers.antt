use Rattle.std.proofs.Common.{subst, sym, IsUtf8}
use Rattle.lexical_core.proofs.CharacterLemmas.{xml_text_is_utf8}
use Rattle.message_model.proofs.patterns.text_of.Goals as goal

pub unreachable-requires : goal.unreachable-requires
unreachable-requires c = c.in-Err.ensures.cases.0 (subst (λ bytes. IsUtf8 bytes) (sym c.bytes.ensures) (xml_text_is_utf8 c.args.text.now c.requires))
