-- The new object has an id of its own, and texts as the others have.
use Rattle.std.proofs.Common.{sym, subst, true≢false, refl, ◌∙◌}
use Rattle.lexical_core.specs.Characters.{IsXmlText}
use Rattle.repo_objects.specs.Repository.{HasId, IsRepository}
use Rattle.repo_objects.specs.Stored.{entries_of}
use Rattle.repo_objects.proofs.Additions.{with_object}
use Rattle.repo_objects.proofs.repository.Repository.add_object.Goals as goal

pub invariant_of-self-2 : goal.invariant_of-self-2
invariant_of-self-2 c =
    subst (λ objects. IsRepository (record { objects = objects; messages = c.self.inside.messages })) (sym c.in_ok-insert_last.ensures.ok)
    (with_object _ (record { id = c.into_vec-id.result.items; object = c.args.object }) c.self.invariant
    (λ has. true≢false (sym (c.if-has_id.ensures.1 (subst (HasId (entries_of c.self.inside.objects.entries)) (sym c.as_slice.ensures.value) has))))
    (record { id = subst IsXmlText (sym c.into_vec-id.ensures) c.requires.id; object = c.requires.texts }))

pub returns-then-has_id-clause-twice : goal.returns-then-has_id-clause-twice
returns-then-has_id-clause-twice c =
    let here = c.if-has_id.ensures.0 refl in
    let has : HasId c.args.self.now.objects c.args.id =
    rw (← c.self.view_is) (subst (HasId (entries_of c.self.inside.objects.entries)) (c.as_slice.ensures.value ∙ c.into_vec-id.ensures) here) in
    (λ _. has, λ _. refl)
