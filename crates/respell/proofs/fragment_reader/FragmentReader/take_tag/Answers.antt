use Rattle.markup.specs.Marks.{no_limit}
use Rattle.markup.proofs.StartsTold.{some_holds}
use Rattle.respell.proofs.FragmentParts.{reads_none, reads_tag}
use Rattle.respell.proofs.fragment_reader.FragmentReader.take_tag.Goals as goal

pub returns-then-not-is_in_default : goal.returns-then-not-is_in_default
returns-then-not-is_in_default c = reads_none c.args.self.now c.args.bytes.now

pub returns-in-Ok : goal.returns-in-Ok
returns-in-Ok c =
    let t = c.in-Ok-Some.tag in
    let e = c.in-Ok-Some.field-0-is in
    reads_tag c.args.self.now _ c.args.bytes.now t.name.now t.kind t.bytes (some_holds _ c.in-Ok-Some.field-0 t e c.in-Ok-Some.ensures.within).1 (some_holds _ c.in-Ok-Some.field-0 t e c.in-Ok-Some.ensures.count)
    (λ bytes told h. some_holds _ c.in-Ok-Some.field-0 t e (c.in-Ok-Some.ensures.taken no_limit bytes told h)) (λ forgotten is n same h default. c.in-Ok.ensures forgotten is n same h default) (λ forgotten is h. c.is_in_default.ensures forgotten is h c.if-not-is_in_default.false)
