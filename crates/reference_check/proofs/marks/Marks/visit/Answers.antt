-- The ids are distinct, so the object at the place is what is found by its id.
use Rattle.std.proofs.Common.{sym}
use Rattle.std.proofs.lemmas.Result.{on_ok_weaker}
use Rattle.repo_objects.specs.Repository.{DictionaryEntry}
use Rattle.reference_check.specs.declared.subject.Subject.TheVariants as subject
use Rattle.reference_check.specs.inner.Subjects.{subject_targets}
use Rattle.reference_check.proofs.Lookups.{find_at}
use Rattle.reference_check.proofs.Marking.{visits, visits_none, entry_targets}
use Rattle.reference_check.proofs.marks.Marks.visit.Goals as goal

pub returns-in-Some : goal.returns-in-Some
returns-in-Some c =
    let R = c.args.repository.now in
    let e : DictionaryEntry = record { id = c.in-Some.field-0-0.now; object = c.in-Some.object.now } in
    on_ok_weaker c.mark_targets.result
    (visits R c.args.at e (subject_targets (subject.Entry c.in-Some.object)) c.args.self.now c.mark_targets.new.self (sym c.in-Some.ensures.entry)
    (λ m. entry_targets R e m (find_at R.objects c.args.at e c.in-Some.ensures.whole.distinct (sym c.in-Some.ensures.entry))))
    c.mark_targets.ensures

pub returns-in-None : goal.returns-in-None
returns-in-None c = visits_none c.args.repository.now c.args.at c.args.self.now (sym c.in-None.ensures.entry)
