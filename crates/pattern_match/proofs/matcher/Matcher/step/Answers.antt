use Rattle.std.proofs.Common.{◌++◌, ◌∷◌, [], sym, subst}
use Rattle.pattern_match.specs.Compiled.{follows, HasReadWord, IsMadeFor}
use Rattle.pattern_match.proofs.Stepping.{read_known}
use Rattle.pattern_match.proofs.matcher.Matcher.step.Goals as goal

pub returns-then-step_by_recall-clause-read : goal.returns-then-step_by_recall-clause-read
returns-then-step_by_recall-clause-read c w h =
    let e = c.step_by_recall.ensures in
    read_known c.args.pattern.now c.args.self.now c.step_by_recall.new.self c.args.c w e.known e.first e.walk e.start
    (e.read c.if-step_by_recall.true (follows c.args.pattern.now) h.table h.at) h

pub returns-then-step_by_recall-clause-made : goal.returns-then-step_by_recall-clause-made
returns-then-step_by_recall-clause-made c = (c.requires.0 ++ c.args.c ∷ [], returns-then-step_by_recall-clause-read c c.requires.0 c.requires.1)

pub step_by_marks-requires : goal.step_by_marks-requires
step_by_marks-requires c = subst (IsMadeFor c.args.pattern.now) (sym (c.step_by_recall.ensures.kept c.if-step_by_recall.false)) c.requires

pub returns-clause-read : goal.returns-clause-read
returns-clause-read c w h = c.step_by_marks.ensures.read w (subst (λ m. HasReadWord c.args.pattern.now m w) (sym (c.step_by_recall.ensures.kept c.if-step_by_recall.false)) h)
