use Rattle.std.proofs.Common.{length, sym, ap, ◌∙◌}
use Rattle.pattern_match.specs.Recall.{marks_at, reached_marks}
use Rattle.pattern_match.proofs.Stepping.{reached_length}
use Rattle.pattern_match.proofs.matcher.Matcher.accepts.Goals as goal

pub last_mark-requires : goal.last_mark-requires
last_mark-requires c =
    ap length (c.row.ensures ∙ sym (ap (λ a. marks_at a c.self.inside.recall c.self.inside.marks.cells) c.in-Some.is) ∙ ap reached_marks c.self.view_is)
    ∙ reached_length c.args.pattern.now c.args.self.now c.requires
