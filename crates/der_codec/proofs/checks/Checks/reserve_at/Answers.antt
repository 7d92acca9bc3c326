use Rattle.std.proofs.Common.{sym}
use Rattle.message_model.specs.Tables.{types_of}
use Rattle.der_codec.proofs.checks.Checks.reserve_at.Goals as goal

pub reserve_one-requires-clause-limits : goal.reserve_one-requires-clause-limits
reserve_one-requires-clause-limits c = (c.type_count.ensures.sound c.args.number).limits c.in-Some.simple.now (sym c.in-Some.ensures)

pub reserve_one-requires-clause-made : goal.reserve_one-requires-clause-made
reserve_one-requires-clause-made c = (types_of c.args.model.now, sym c.in-Some.ensures, c.requires)

pub returns-clause-made : goal.returns-clause-made
returns-clause-made c = c.reserve_one.ensures.made (types_of c.args.model.now) (sym c.in-Some.ensures) c.requires
