use Rattle.std.proofs.Common.{map}
use Rattle.lexical_core.specs.Tree.{Char}
use Rattle.xml_instances.specs.Keeping.{with_all_inside}
use Rattle.xml_instances.proofs.KeptPieces.{one_step}
use Rattle.xml_instances.proofs.pieces.inside_run.Goals as goal

pub returns-in-Some-clause-shown : goal.returns-in-Some-clause-shown
returns-in-Some-clause-shown c count r =
    one_step c.args.pieces.now c.in-Some.pieces c.inside_run.new.self (with_all_inside (map (λ c. Char c) r.characters)) c.inside_run.result c.in-Some.is (λ s h. c.inside_run.ensures s count r h)
