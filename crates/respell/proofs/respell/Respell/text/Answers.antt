use Rattle.std.proofs.Common.{◌∙◌}
use Rattle.respell.proofs.RespelledTrees.{whole_text}
use Rattle.respell.proofs.respell.Respell.text.Goals as goal

pub returns : goal.returns
returns c = λ items t taken are. c.bytes.ensures ∙ (taken.text_is ∙ whole_text items t are)
