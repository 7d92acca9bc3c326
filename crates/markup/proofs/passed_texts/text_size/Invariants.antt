-- What is left leads on where the piece does.
use Rattle.std.proofs.Common.{◌≤◌, length}
use Rattle.markup.specs.inner.AsideTexts.{is_text_of, text_end, LeadsToEnd}
use Rattle.markup.proofs.passed_texts.text_size.Given as goal

abbrev pub invariant-loop-kind : goal.invariant-loop-kind
invariant-loop-kind l = LeadsToEnd (is_text_of l.kind) (text_end l.kind) l.piece l.rest × (length l.rest ≤ length l.piece)

abbrev pub decreases-loop-kind : goal.decreases-loop-kind
decreases-loop-kind l = length l.rest
