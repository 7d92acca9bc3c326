use Rattle.std.proofs.Common.{refl}
use Rattle.markup.specs.Marks.{no_limit}
use Rattle.respell.proofs.FragmentParts.{reads_inside}
use Rattle.respell.proofs.fragment_reader.FragmentReader.take_inside.Goals as goal

pub returns-in-Ok : goal.returns-in-Ok
returns-in-Ok c = reads_inside c.args.self.now _ c.args.bytes.now c.in-Ok.count c.in-Ok.ensures.within c.in-Ok.ensures.count c.in-Ok.ensures.none (c.in-Ok.ensures.taken no_limit) refl
