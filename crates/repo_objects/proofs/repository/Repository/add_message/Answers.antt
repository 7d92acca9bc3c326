-- The new message has texts as the others have.
use Rattle.repo_objects.proofs.Additions.{pushed}
use Rattle.repo_objects.proofs.repository.Repository.add_message.Goals as goal

pub invariant_of-self : goal.invariant_of-self
invariant_of-self c = pushed _ _ c.args.message c.push.result c.push.ensures.ok c.push.ensures.err c.self.invariant c.requires
