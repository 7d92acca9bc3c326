use Rattle.markup.specs.Marks.{no_limit}
use Rattle.respell.specs.declared.fragment_reader.FragmentReader.{FragmentReader}
use Rattle.respell.proofs.FragmentFronts.{items}
use Rattle.respell.proofs.FragmentSteps.{if_ok, read_more, given_sorted, given_inside, byte_refused}
use Rattle.respell.proofs.fragment_reader.FragmentReader.take.Goals as goal

pub returns-in-Ok-clause-goes_on : goal.returns-in-Ok-clause-goes_on
returns-in-Ok-clause-goes_on c bytes forgotten h =
    let new : FragmentReader = record { reader = c.take.new.self; events = c.take.new.out; respell = c.take_events.new.respell } in
    let g = c.in-Ok.ensures.ok no_limit bytes h.told h.reads in
    if_ok _ _ c.take_events.result (c.take_events.ensures.goes_on forgotten (items h.told) h.writes h.inside (given_sorted c.args.self.now new bytes forgotten c.args.byte c.clear.new.self c.take.new.out c.as_slice.result.now h g c.clear.ensures c.as_slice.ensures))
    (λ b k met. read_more c.args.self.now new bytes forgotten c.args.byte c.clear.new.self c.take.new.out c.as_slice.result.now h g c.clear.ensures c.as_slice.ensures (k met))

pub returns-in-Ok-clause-stops : goal.returns-in-Ok-clause-stops
returns-in-Ok-clause-stops c bytes forgotten more h =
    let new : FragmentReader = record { reader = c.take.new.self; events = c.take.new.out; respell = c.take_events.new.respell } in
    let g = c.in-Ok.ensures.ok no_limit bytes h.told h.reads in
    if_ok _ _ c.take_events.result (c.take_events.ensures.stops forgotten (items h.told) h.writes h.inside (given_sorted c.args.self.now new bytes forgotten c.args.byte c.clear.new.self c.take.new.out c.as_slice.result.now h g c.clear.ensures c.as_slice.ensures))
    (λ b k unmet f. k unmet (given_inside c.args.self.now new bytes forgotten more c.args.byte c.clear.new.self c.take.new.out c.as_slice.result.now h g c.clear.ensures c.as_slice.ensures f))

pub returns-in-Err-Refused-clause-stops : goal.returns-in-Err-Refused-clause-stops
returns-in-Err-Refused-clause-stops c bytes forgotten more h unmet f =
    byte_refused c.args.self.now bytes forgotten more c.clear.new.self c.take.new.out c.in-Err-Refused.field-0 c.in-Err-Refused.field-0-0 h c.args.byte c.in-Err-Refused.field-0-is (c.in-Err-Refused.ensures.err no_limit bytes h.told h.reads) f
