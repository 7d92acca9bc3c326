use Rattle.markup.specs.Marks.{no_limit}
use Rattle.respell.proofs.FragmentParts.{reads_none, reads_run}
use Rattle.respell.proofs.fragment_reader.FragmentReader.take_run.Goals as goal

pub returns-then-is_closed : goal.returns-then-is_closed
returns-then-is_closed c = reads_none c.args.self.now c.args.bytes.now

pub returns-in-Ok : goal.returns-in-Ok
returns-in-Ok c = reads_run c.args.self.now _ c.args.bytes.now c.min-room.result c.take_characters-run.result.bytes c.take_characters-run.result.characters c.take_characters-run.ensures.within c.take_characters-run.ensures.count (c.take_characters-run.ensures.taken no_limit)
    (λ forgotten is r h. c.in-Ok.ensures forgotten is c.take_characters-run.result.characters r h) (λ forgotten is characters h inside. c.is_closed.ensures forgotten is characters h inside c.if-is_closed.false)
