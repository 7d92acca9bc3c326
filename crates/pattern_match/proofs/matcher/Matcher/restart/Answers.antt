use Rattle.std.proofs.Common.{[], refl, sym, ap, ◌∙◌, subst}
use Rattle.pattern_match.specs.Marks.{IsDone}
use Rattle.pattern_match.proofs.Stepping.{begun_known, begun_again}
use Rattle.pattern_match.proofs.matcher.Matcher.restart.Goals as goal

pub returns-in-Some-clause-read : goal.returns-in-Some-clause-read
returns-in-Some-clause-read c =
    let v = c.self.view_is in
    begun_known c.args.pattern.now c.args.self.now _ c.in-Some.first c.requires.0 (ap (λ m. m.known) v) (ap (λ m. m.first) v) (ap (λ m. m.walk) v) (ap (λ m. m.start) v)
    (sym (ap (λ m. m.first) v) ∙ c.in-Some.is) refl c.requires.1

pub returns-in-Some-clause-made : goal.returns-in-Some-clause-made
returns-in-Some-clause-made c = ([], returns-in-Some-clause-read c)

pub returns-clause-read : goal.returns-clause-read
returns-clause-read c =
    let v = c.self.view_is in
    begun_again c.args.pattern.now c.args.self.now _ c.requires.0 (ap (λ m. m.known) v) (ap (λ m. m.first) v) (ap (λ m. m.start) v) refl
    (c.pass_start.ensures.marks ∙ ap (λ m. m.start.cells) v ∙ c.requires.1.start.marks) (subst (λ x. IsDone x c.pass_start.new.marks) c.code.ensures.code c.pass_start.ensures.done) c.requires.1

pub returns-clause-made : goal.returns-clause-made
returns-clause-made c = ([], returns-clause-read c)
