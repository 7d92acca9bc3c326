use Rattle.respell.proofs.FragmentParts.{reads_first, refuses_first}
use Rattle.respell.proofs.fragment_reader.FragmentReader.take_first.Goals as goal

pub returns-then-branch : goal.returns-then-branch
returns-then-branch c = reads_first c.args.self.now c.take.new.self c.args.bytes.now c.in-Some._behind.now c.in-Some.byte.now c.in-Some.ensures.cases.0 (c.in_ok-take.ensures.count c.if-branch.true) (λ front forgotten h. c.in_ok-take.ensures.goes_on front forgotten h c.if-branch.true)

pub returns-else-branch : goal.returns-else-branch
returns-else-branch c = refuses_first c.args.self.now c.take.new.self c.args.bytes.now c.in-Some._behind.now c.in-Some.byte.now c.in-Some.ensures.cases.0 (λ front forgotten more h. c.in_ok-take.ensures.stops front forgotten more h c.if-branch.false)
