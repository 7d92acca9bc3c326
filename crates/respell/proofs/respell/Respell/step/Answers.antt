use Rattle.respell.proofs.KeptLemmas.{taken_start, taken_char, taken_end, taken_skipped}
use Rattle.respell.proofs.respell.Respell.step.Goals as goal

pub returns-in_ok-start-in-Start : goal.returns-in_ok-start-in-Start
returns-in_ok-start-in-Start c forgotten items h sorted =
    taken_start c.args.self.now c.start.new.self forgotten items c.args.what.now c.in-Start.ns c.in-Start.local c.bytes.result.now c.bytes-in-Start.result.now c.in-Start.attrs c.as_slice.result.now h sorted c.in-Start.is
    c.bytes.ensures c.bytes-in-Start.ensures c.as_slice.ensures c.in_ok-start-in-Start.ensures.text c.in_ok-start-in-Start.ensures.kept c.start.ensures.failed c.in_ok-start-in-Start.ensures.prefixed

pub returns-in_ok-character-in-Char : goal.returns-in_ok-character-in-Char
returns-in_ok-character-in-Char c forgotten items h sorted =
    taken_char c.args.self.now c.character.new.self forgotten items c.args.what.now c.in-Char.c h c.in-Char.is c.in_ok-character-in-Char.ensures.text c.character.ensures.rest.0 c.character.ensures.rest.1 c.character.ensures.rest.2 c.character.ensures.prefixed

pub returns-in_ok-end-in-End : goal.returns-in_ok-end-in-End
returns-in_ok-end-in-End c forgotten items h sorted =
    taken_end c.args.self.now c.end.new.self forgotten items c.args.what.now c.in-End.ns c.in-End.local c.bytes-in-End.result.now c.bytes-in-End-2.result.now h c.in-End.is
    c.bytes-in-End.ensures c.bytes-in-End-2.ensures c.in_ok-end-in-End.ensures.text c.in_ok-end-in-End.ensures.kept c.end.ensures.failed c.end.ensures.prefixed

pub returns-in-Skipped : goal.returns-in-Skipped
returns-in-Skipped c forgotten items h sorted = taken_skipped c.args.self.now forgotten items c.args.what.now h c.in-Skipped.is
