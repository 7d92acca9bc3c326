-- The ids and the other texts stay.
use Rattle.std.proofs.Common.{sym, subst}
use Rattle.repo_objects.specs.Repository.{IsRepository}
use Rattle.repo_objects.proofs.Codes.{with_other_codes}
use Rattle.repo_objects.proofs.repository.Repository.set_codes.Goals as goal

pub invariant_of-self : goal.invariant_of-self
invariant_of-self c =
    subst (λ objects. IsRepository (record { objects = objects; messages = c.self.inside.messages })) (sym c.put_codes.ensures)
    (with_other_codes _ c.args.at c.args.codes c.requires.texts c.self.invariant)
