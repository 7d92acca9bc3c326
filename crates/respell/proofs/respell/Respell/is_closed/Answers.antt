use Rattle.std.proofs.Common.{Bool, List, length, ap, ◌∙◌}
use Rattle.std.specs.Prelude.{◌==◌}
use Rattle.respell.proofs.Outside.{chars_inside}
use Rattle.respell.proofs.respell.Respell.is_closed.Goals as goal

pub returns : goal.returns
returns c forgotten items characters h inside unmet = chars_inside c.args.self.now forgotten items characters c.is_empty.result (c.is_empty.ensures ∙ ap (λ (l : List Bool). length l == 0) c.as_slice.ensures.value) h inside unmet
