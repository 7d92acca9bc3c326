-- The ids are distinct, so the object at the place is the one of that id.
use Rattle.std.proofs.Common.{true≢false, sym, arith}
use Rattle.std.proofs.lemmas.Result.{on_ok_weaker}
use Rattle.std.proofs.lemmas.Option.{slice_get_within}
use Rattle.reference_check.proofs.Marking.{adds_at, adds_absent}
use Rattle.reference_check.proofs.marks.Marks.mark.Goals as goal

pub returns-in-Some : goal.returns-in-Some
returns-in-Some c =
    let there = c.in-Some.ensures.found in
    let within = slice_get_within c.args.repository.now.objects c.in-Some.at there.0 there.1 in
    on_ok_weaker c.mark_at.result
    (adds_at c.args.repository.now c.in-Some.at there.0 c.args.id.now c.args.self.now c.mark_at.new.self there.1 there.2 c.in-Some.ensures.whole.distinct (omega arith))
    c.mark_at.ensures

pub returns-in-None : goal.returns-in-None
returns-in-None c = adds_absent c.args.repository.now c.args.id.now c.args.self.now (λ has. true≢false (sym (c.in-None.ensures.there.1 has)))
