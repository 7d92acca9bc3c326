use Rattle.std.proofs.Common.{◌≡◌, ◌++◌, ◌∷◌, [], refl, sym, ap, ◌∙◌, subst}
use Rattle.pattern_match.specs.Recall.{reached_marks}
use Rattle.pattern_match.specs.Compiled.{follows, HasReadWord}
use Rattle.pattern_match.proofs.Stepping.{read_learned, recollected}
use Rattle.pattern_match.proofs.matcher.Matcher.step_by_marks.Goals as goal

pub returns-clause-read : goal.returns-clause-read
returns-clause-read c w h =
    let e = c.recollect.ensures in
    let r = subst (λ m. HasReadWord c.args.pattern.now m w × (reached_marks m ≡ m.walk.cells)) (sym c.self.view_is)
    (recollected c.args.pattern.now c.args.self.now c.recollect.new.self w e.done e.marks e.at e.first e.known e.start h) in
    read_learned c.args.pattern.now _ _ c.cells.result.now c.args.c w c.cells.ensures refl refl
    (c.read_marks.ensures.marks ∙ ap (λ x. follows c.args.pattern.now c.args.c x) (sym r.1))
    c.learn-self-inside.ensures.rows c.learn-self-inside.ensures.table c.learn-self-inside.ensures.row c.read_marks.ensures.done r.0

pub returns-clause-made : goal.returns-clause-made
returns-clause-made c = (c.requires.0 ++ c.args.c ∷ [], returns-clause-read c c.requires.0 c.requires.1)
