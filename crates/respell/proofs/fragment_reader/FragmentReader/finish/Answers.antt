use Rattle.std.proofs.Common.{arith}
use Rattle.markup.specs.Marks.{no_limit}
use Rattle.respell.proofs.FragmentSteps.{ends_refused, ends_whole, never}
use Rattle.respell.proofs.fragment_reader.FragmentReader.finish.Goals as goal

pub returns-in-Ok : goal.returns-in-Ok
returns-in-Ok c bytes h short =
    ends_whole c.args.self.now bytes h.forgotten c.args.waiting.now c.is_empty.result h.front (c.in-Ok.ensures.ok no_limit bytes h.front.told h.front.reads) h.compared h.waiting_are c.is_empty.ensures (omega (arith, short))

pub returns-in-Err : goal.returns-in-Err
returns-in-Err c bytes h short = never bytes (λ f. ends_refused bytes c.in-Err.field-0 (c.in-Err.ensures.err no_limit bytes h.front.told h.front.reads) f)
