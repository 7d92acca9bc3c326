use Rattle.std.proofs.Common.{◌≡◌, suc, Some, sym, ap, ◌∙◌, subst}
use Rattle.pattern_match.specs.Recall.{cell, row, IsRow, reached_marks}
use Rattle.pattern_match.proofs.Recalling.{recalled}
use Rattle.pattern_match.proofs.matcher.Matcher.step_by_recall.Goals as goal

pub returns-clause-read : goal.returns-clause-read
returns-clause-read c t next h r =
    let known = ap (λ m. m.known) c.self.view_is in
    let n = c.in-Some-after.next in
    subst (λ k. (row k n ≡ next c.args.c (reached_marks c.args.self.now)) × IsRow k (Some n) (row k n)) (sym known)
    (recalled next c.args.self.now c.in-Some.at c.args.c n h r (sym (ap (λ m. m.at) c.self.view_is) ∙ c.in-Some.is) c.in-Some-after.ensures.0
    (subst (λ k. cell k c.in-Some.at c.args.c ≡ suc n) known c.in-Some-after.ensures.1))
