use Rattle.reference_check.specs.Reached.{IsReachFor}
use Rattle.message_model.proofs.Refused.{from_structure, from_tail}
use Rattle.message_model.proofs.model.Model.compile.Goals as goal

pub returns-in-Err-clause-refused : goal.returns-in-Err-clause-refused
returns-in-Err-clause-refused c = from_structure c.args.repository.now c.args.id.now c.in-Err.error c.in-Err.ensures.broken

pub returns-in-Err-tail-clause-refused : goal.returns-in-Err-tail-clause-refused
returns-in-Err-tail-clause-refused c =
    let is : IsReachFor c.args.repository.now c.args.id.now c.in-Ok.reached = record { has = c.in-Ok.ensures.reached; sound = c.in-Ok.ensures.sound } in
    from_tail c.args.repository.now c.args.id.now c.in-Ok.ensures.sound (c.in_default.ensures.good c.args.id.now is) c.in-Err-tail.error (c.in-Err-tail.ensures.broken c.args.id.now is)
