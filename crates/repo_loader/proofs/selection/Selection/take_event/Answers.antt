-- A start is taken; an end closes the innermost element; all else says nothing.
use Rattle.std.proofs.Common.{refl, sym, ap, ◌∙◌, []}
use Rattle.markup.specs.EventItems.{placed_event, item_of}
use Rattle.repo_loader.specs.Selected.{innermost, item_tags, parts_open_behind, parts_open_after}
use Rattle.repo_loader.proofs.EventSteps.{quiet_event}
use Rattle.repo_loader.proofs.selection.Selection.take_event.Goals as goal

pub returns-in-Char : goal.returns-in-Char
returns-in-Char c told h =
    quiet_event c.args.self.now c.args.self.now told (placed_event c.args.event.now) h (ap (λ w. item_tags (innermost (parts_open_after [] told)) (item_of w)) c.in-Char.is) refl
    (h.open_are ∙ sym (ap (λ w. parts_open_behind (parts_open_after [] told) (item_of w)) c.in-Char.is))

pub returns-in-Skipped : goal.returns-in-Skipped
returns-in-Skipped c told h =
    quiet_event c.args.self.now c.args.self.now told (placed_event c.args.event.now) h (ap (λ w. item_tags (innermost (parts_open_after [] told)) (item_of w)) c.in-Skipped.is) refl
    (h.open_are ∙ sym (ap (λ w. parts_open_behind (parts_open_after [] told) (item_of w)) c.in-Skipped.is))
