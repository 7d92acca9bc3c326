use Rattle.std.proofs.Common.{◌+◌, take, refl, ap, ◌∙◌}
use Rattle.markup.specs.Reading.{bytes_taken}
use Rattle.message_model.specs.Tables.{message_of}
use Rattle.xml_instances.proofs.QuickFed.{front_run, front_nothing}
use Rattle.xml_instances.proofs.Blanks.{blanks_taken, blanks_shown}
use Rattle.xml_instances.proofs.checker.XmlChecker.take_blanks.Goals as goal

pub returns-then-count-eq0-clause-front : goal.returns-then-count-eq0-clause-front
returns-then-count-eq0-clause-front c =
    let xs = c.args.piece.now in
    let n = c.take_blanks-count.result in
    front_nothing c.args.model.now c.args.self.now _ xs (take n xs) n (ap (λ n. take n xs) c.if-count-eq0.true) (c.take_blanks-count.ensures.taken _)
    (c.take_blanks-count.ensures.count ∙ ap (λ v. bytes_taken c.args.self.now.reader + v) c.if-count-eq0.true) refl refl refl refl

pub returns-clause-front : goal.returns-clause-front
returns-clause-front c =
    let n = c.take_blanks-count.result in
    let xs = c.args.piece.now in
    front_run c.args.model.now c.args.self.now _ xs n n c.take_blanks-count.ensures.within c.requires.room
    (c.take_blanks-count.ensures.taken _) c.take_blanks-count.ensures.count c.saturating_add-self.ensures refl refl
    (λ r ls h. blanks_taken (message_of c.args.model.now) ls (take n xs) n r c.args.self.now.content c.requires.fits c.take_blanks-count.ensures.blank h)
    (λ r ls h. blanks_shown c.args.model.now ls r.characters c.args.self.now.content c.requires.fits h)
