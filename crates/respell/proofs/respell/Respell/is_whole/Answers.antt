use Rattle.std.proofs.Common.{ℕ, List, Bool, length, ap, ◌∙◌}
use Rattle.std.specs.Prelude.{◌==◌}
use Rattle.respell.proofs.WholeFronts.{whole_not, whole_test}
use Rattle.respell.proofs.respell.Respell.is_whole.Goals as goal

pub returns-then-is_empty : goal.returns-then-is_empty
returns-then-is_empty c items h f =
    whole_test c.args.self.now items c.is_empty.result c.is_empty-then-is_empty.result (c.is_empty.ensures ∙ ap (λ (l : List Bool). length l == 0) c.as_slice.ensures.value) c.if-is_empty.true
    (c.is_empty-then-is_empty.ensures ∙ ap (λ (l : List ℕ). length l == 0) c.bytes.ensures) h f

pub returns-else-is_empty : goal.returns-else-is_empty
returns-else-is_empty c items h f =
    whole_not c.args.self.now items c.is_empty.result (c.is_empty.ensures ∙ ap (λ (l : List Bool). length l == 0) c.as_slice.ensures.value) c.if-is_empty.false h
