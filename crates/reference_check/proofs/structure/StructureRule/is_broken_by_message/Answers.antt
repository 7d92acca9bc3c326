-- The message at the place is what is found of its identifier.
use Rattle.reference_check.proofs.RuleTests.{message_test}
use Rattle.reference_check.proofs.structure.StructureRule.is_broken_by_message.Goals as goal

pub returns-in-Some : goal.returns-in-Some
returns-in-Some c = λ m d here first.
    message_test c.args.repository.now m c.args.at c.args.self c.in-Some.definition d c.in-Some.ensures.message here first c.is_broken.result c.is_broken.ensures
