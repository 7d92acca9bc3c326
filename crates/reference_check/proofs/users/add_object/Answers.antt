use Rattle.std.proofs.Common.{List, sym, subst}
use Rattle.std.proofs.lemmas.Result.{on_ok_weaker}
use Rattle.repo_objects.specs.declared.objects.ElementDef.{ElementDef}
use Rattle.repo_objects.specs.Repository.{DictionaryEntry}
use Rattle.reference_check.specs.inner.FiniteSearch.{IsListedForAll}
use Rattle.reference_check.proofs.SearchAnswers.{listed_object}
use Rattle.reference_check.proofs.users.add_object.Goals as goal

pub returns-in-Some-clause-listed : goal.returns-in-Some-clause-listed
returns-in-Some-clause-listed c =
    let e : DictionaryEntry = record { id = c.in-Some.field-0-0.now; object = c.in-Some.object.now } in
    on_ok_weaker c.add_targets.result (λ h. listed_object c.args.repository.now.objects c.add_targets.new.lists.items c.args.user e (sym c.in-Some.ensures.entry)
    (subst (λ (x : List ElementDef). IsListedForAll c.args.repository.now.objects c.add_targets.new.lists.items c.args.user x) c.as_slice.ensures h)) c.add_targets.ensures.listed
