-- The last size tells where the innermost name stands.
use Rattle.std.proofs.Common.{sym, ◌∙◌}
use Rattle.markup.proofs.NameBlocks.{innermost_is}
use Rattle.markup.proofs.open_names.OpenNames.innermost.Goals as goal

pub returns : goal.returns
returns c names k =
    innermost_is c.args.self.now names c.in-Some.field-0-1.now c.in-Some.size.now c.split_at-2.result.1.now c.split_at.result.1.now k (sym c.deref.ensures.value ∙ c.in-Some.ensures.cases.0)
    (rw (c.split_at.ensures.back, c.saturating_sub.ensures, c.bytes-bytes.ensures))
    (rw (c.split_at-2.ensures.back, c.saturating_sub-2.ensures, c.split_at.ensures.front, c.saturating_sub.ensures, c.bytes-bytes.ensures))
