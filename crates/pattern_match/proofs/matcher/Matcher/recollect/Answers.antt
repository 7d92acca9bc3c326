use Rattle.std.proofs.Common.{length, ◌+◌, sym, ap, ◌∙◌}
use Rattle.pattern_match.specs.Recall.{marks_at, reached_marks}
use Rattle.pattern_match.proofs.Stepping.{reached_length}
use Rattle.pattern_match.proofs.matcher.Matcher.recollect.Goals as goal

pub pass_load-requires-clause-row : goal.pass_load-requires-clause-row
pass_load-requires-clause-row c =
    ap length (c.row.ensures ∙ sym (ap (λ a. marks_at a c.self.inside.recall c.self.inside.marks.cells) c.in-Some.is) ∙ ap reached_marks c.self.view_is)
    ∙ reached_length c.args.pattern.now c.args.self.now c.requires ∙ ap (λ x. length x + 1) (sym c.code.ensures.code)
