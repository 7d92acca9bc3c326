-- The ending is written where the map has one.
use Rattle.std.proofs.Common.{Some}
use Rattle.lexical_core.proofs.ByteKeys.{found_updated}
use Rattle.asn1_model.proofs.given.set_ending.Goals as goal

pub returns-in-Some : goal.returns-in-Some
returns-in-Some c has q = found_updated c.args.name.now c.args.endings.now (c.get_mut.follows.lender c.args.ending) (Some c.args.ending) ((c.get_mut.follows.holds c.args.ending).3 has) q
