-- The ids are distinct, so the object at the place is what is found by its id.
use Rattle.reference_check.proofs.RuleTests.{object_test}
use Rattle.reference_check.proofs.structure.StructureRule.is_broken_at.Goals as goal

pub returns-in-Some-clause-broken : goal.returns-in-Some-clause-broken
returns-in-Some-clause-broken c = λ m e here.
    object_test c.args.repository.now m c.args.at c.args.self c.in-Some.object c.in-Some.field-0-0.now e c.in-Some.ensures.whole c.in-Some.ensures.entry here c.is_broken.result c.is_broken.ensures
