-- The entry before is closed; then the least rule is told.
use Rattle.std.proofs.Common.{◌≡◌, ◌∙◌, sym, ap, map, true≢false, subst, Some}
use Rattle.lexical_core.specs.Names.{attribute_value}
use Rattle.markup.specs.TagAttributes.{tag_entry}
use Rattle.repo_objects.specs.Repository.{HasId, HasEntryTexts}
use Rattle.repo_loader.specs.FileNames.{id_name}
use Rattle.repo_loader.specs.FileValues.{text_or_empty}
use Rattle.repo_loader.specs.inner.LoadingSteps.{HasIdIn}
use Rattle.repo_loader.proofs.EntryTexts.{entry_texts}
use Rattle.repo_loader.proofs.LoadingLemmas.{id_twice, tells_facets}
use Rattle.repo_loader.proofs.loading.Loading.take_entry.Goals as goal

pub returns-then-has_id_of-clause-err : goal.returns-then-has_id_of-clause-err
returns-then-has_id_of-clause-err c tags h =
    id_twice tags c.args.kind (map tag_entry c.args.attributes.now) c.close_entry.new.self.repository.objects (h.objects_are ∙ sym c.in_ok-close_entry.ensures.objects)
    (c.has_id_of.ensures.0 c.if-has_id_of.true)

pub returns-in-Err-clause-err : goal.returns-in-Err-clause-err
returns-in-Err-clause-err c tags h =
    tells_facets tags c.args.kind (map tag_entry c.args.attributes.now) c.close_entry.new.self.repository.objects (h.objects_are ∙ sym c.in_ok-close_entry.ensures.objects)
    c.in-Err.stop (λ has. true≢false (sym (c.has_id_of.ensures.1 has) ∙ c.if-has_id_of.false)) c.in-Err.ensures.err

pub returns-clause-can_close : goal.returns-clause-can_close
returns-clause-can_close c =
    let attributes = map tag_entry c.args.attributes.now in
    let here = c.close_entry.new.self.repository.objects in
    let id : attribute_value id_name attributes ≡ Some c.in-Some.id.now = c.in-Some.ensures.some.0 in
    let kept : c.in_ok-copied.field-0 ≡ text_or_empty (attribute_value id_name attributes) = c.in_ok-copied.ensures ∙ sym (ap text_or_empty id) in (
      λ has. true≢false (sym (c.has_id_of.ensures.1 (subst (HasIdIn here) (sym id) (subst (HasId here) c.in_ok-copied.ensures has))) ∙ c.if-has_id_of.false),
      subst HasEntryTexts (λ i. record { id = sym kept i; object = sym c.in-Ok.ensures.ok.1 i }) (entry_texts attributes c.requires.texts c.args.kind),
    )
