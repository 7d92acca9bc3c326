-- The test of a rule at a place of a repository.
use Rattle.std.proofs.Common.{◌≡◌, ℕ, Bool, List, Some, Result, Ok, Err, IfOk, refl, sym, ap, ◌∙◌, Bor}
use Rattle.std.specs.Prelude.{slice_get, IsTrue, ◌↔◌}
use Rattle.repo_objects.specs.declared.objects.MessageDef.{MessageDef}
use Rattle.repo_objects.specs.declared.objects.Object.{Object}
use Rattle.repo_objects.specs.Repository.{DictionaryEntry, Contents, IsRepository}
use Rattle.reference_check.specs.declared.structure.StructureRule.{StructureRule}
use Rattle.reference_check.specs.declared.subject.Subject.TheVariants as subject
use Rattle.reference_check.specs.Graph.{message, entry, find_message}
use Rattle.reference_check.specs.Rules.{Breaks}
use Rattle.reference_check.specs.inner.Subjects.{asked_rule, BreaksStructureRule}
use Rattle.reference_check.proofs.Lookups.{find_at}
use Rattle.reference_check.proofs.SubjectRules.{subject_breaks}

told : {E : Type 0} {P Q : Type 0} (r : Result Bool E) → (P ↔ Q) → IfOk r (λ b. IsTrue b ↔ P) → IfOk r (λ b. IsTrue b ↔ Q)
told (Ok b) same h = (λ t. same.0 (h.0 t), λ q. h.1 (same.1 q))
told (Err e) same h = tt

pub object_test : {E : Type 0} (R : Contents) (m : List ℕ) (at : ℕ) (rule : StructureRule) (o : Bor Object) (id : List ℕ) (e : DictionaryEntry) → IsRepository R
    → (let found : DictionaryEntry = record { id = id; object = o.now } in Some found ≡ slice_get R.objects at) → slice_get R.objects at ≡ Some e
    → (r : Result Bool E) → IfOk r (λ b. IsTrue b ↔ BreaksStructureRule R rule (subject.Entry o)) → IfOk r (λ b. IsTrue b ↔ Breaks R m (asked_rule rule) (entry e.id))
object_test R m at rule o id e whole is here r h =
    let found : DictionaryEntry = record { id = id; object = o.now } in
    let same : found ≡ e = cc in
    let named : id ≡ e.id = ap (λ (x : DictionaryEntry). x.id) same in
    told r (subject_breaks R m (entry e.id) (subject.Entry o) rule (id, ap entry (sym named), find_at R.objects at found whole.distinct (sym is))) h

pub message_test : {E : Type 0} (R : Contents) (m : List ℕ) (at : ℕ) (rule : StructureRule) (o : Bor MessageDef) (d : MessageDef)
    → Some o.now ≡ slice_get R.messages at → slice_get R.messages at ≡ Some d → find_message m R.messages ≡ Some d
    → (r : Result Bool E) → IfOk r (λ b. IsTrue b ↔ BreaksStructureRule R rule (subject.Message o)) → IfOk r (λ b. IsTrue b ↔ Breaks R m (asked_rule rule) message)
message_test R m at rule o d is here first r h =
    let same : o.now ≡ d = cc in
    told r (subject_breaks R m message (subject.Message o) rule (refl, first ∙ ap Some (sym same))) h
