use Rattle.std.proofs.Common.{◌+◌, take, refl, ap, ◌∙◌}
use Rattle.markup.specs.Reading.{bytes_taken}
use Rattle.xml_instances.proofs.QuickFed.{front_run, front_nothing}
use Rattle.xml_instances.proofs.checker.XmlChecker.take_characters.Goals as goal

pub returns-then-run-eq0-clause-front : goal.returns-then-run-eq0-clause-front
returns-then-run-eq0-clause-front c =
    let xs = c.args.piece.now in
    front_nothing c.args.model.now c.args.self.now _ xs (take c.take_characters-run.result.bytes xs) c.take_characters-run.result.characters (ap (λ n. take n xs) c.if-run-eq0.true) (c.take_characters-run.ensures.taken _)
    (c.take_characters-run.ensures.count ∙ ap (λ v. bytes_taken c.args.self.now.reader + v) c.if-run-eq0.true) refl refl refl refl

pub returns-in-Ok-clause-front : goal.returns-in-Ok-clause-front
returns-in-Ok-clause-front c =
    let n = c.take_characters-run.result.bytes in
    front_run c.args.model.now c.args.self.now _ c.args.piece.now c.take_characters-run.result.characters n c.take_characters-run.ensures.within c.requires.room
    (c.take_characters-run.ensures.taken _) c.take_characters-run.ensures.count c.saturating_add-self.ensures refl refl
    c.in-Ok.ensures.taken c.in-Ok.ensures.shown
