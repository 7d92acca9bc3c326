-- What breaks a rule by itself is the reached object or the message that does.
use Rattle.std.proofs.Common.{◌≡◌, ℕ, List, [], Option, Some, None, refl, sym, subst, inl, inr, Contains, Bor}
use Rattle.std.specs.Prelude.{◌↔◌}
use Rattle.repo_objects.specs.declared.objects.ElementDef.{ElementDef}
use Rattle.repo_objects.specs.declared.objects.MessageDef.{MessageDef}
use Rattle.repo_objects.specs.declared.objects.Object.{Object}
use Rattle.repo_objects.specs.Repository.{Contents}
use Rattle.reference_check.specs.declared.structure.StructureRule.{StructureRule}
use Rattle.reference_check.specs.declared.structure.StructureRule.TheVariants as asked
use Rattle.reference_check.specs.Graph.{Place, message, entry, find_entry, find_message}
use Rattle.reference_check.specs.Reach.{elements_of, currency_of, elements_or_none, currency_or_none}
use Rattle.reference_check.specs.Rules.{Breaks, OfObject, HasBadName}
use Rattle.reference_check.specs.declared.subject.Subject.{Subject}
use Rattle.reference_check.specs.declared.subject.Subject.TheVariants as subject
use Rattle.reference_check.specs.inner.Subjects.{asked_rule, BreaksStructureRule, IsSubject, IsOptionalChoice, IsEmptyChoice}
use Rattle.reference_check.proofs.Marking.{none_in}
use Rattle.reference_check.proofs.FirstPlaces.{no_message}
use Rattle.reference_check.proofs.Lists.{contained}

-- what an object that is found says
of_found : (R : Contents) (id : List ℕ) (o : Object) (Says : Object → Type 0) → find_entry id R.objects ≡ Some o → Says o ↔ OfObject R (entry id) Says
of_found R id o Says found = (λ h. (id, o, refl, found, h), λ (other, x, at, there, h). by other x at there h)
  where
    by : (other : List ℕ) (x : Object) → entry id ≡ entry other → find_entry other R.objects ≡ Some x → Says x → Says o
    by other x at there h =
        let same_id : id ≡ other = cc in
        let here : find_entry id R.objects ≡ Some x = subst (λ z. find_entry z R.objects ≡ Some x) (sym same_id) there in
        let same : x ≡ o = cc in
        subst (λ (z : Object). Says z) same h

both : {P : Type 0} → P ↔ P
both = (λ h. h, λ h. h)

module _ (R : Contents) (m : List ℕ) (id : List ℕ) (o : Bor Object) (found : find_entry id R.objects ≡ Some o.now) where
  entry_breaks : (rule : StructureRule) → BreaksStructureRule R rule (subject.Entry o) ↔ Breaks R m (asked_rule rule) (entry id)
  entry_breaks asked.Dangling = (λ h. rw found h, λ h. rw found at h)
  entry_breaks asked.BadCurrency = (λ h. rw found h, λ h. rw found at h)
  entry_breaks asked.NotOneReference = (λ h. rw found h, λ h. rw found at h)
  entry_breaks asked.BadName = (λ h. rw found h, λ h. rw found at h)
  entry_breaks asked.TagTwice = (λ h. rw found h, λ h. rw found at h)
  entry_breaks asked.BadBounds = (λ h. rw found h, λ h. rw found at h)
  entry_breaks asked.OptionalAlternative = of_found R id o.now IsOptionalChoice found
  entry_breaks asked.NoAlternatives = of_found R id o.now IsEmptyChoice found

module _ (R : Contents) (m : List ℕ) (d : Bor MessageDef) (found : find_message m R.messages ≡ Some d.now) where
  message_breaks : (rule : StructureRule) → BreaksStructureRule R rule (subject.Message d) ↔ Breaks R m (asked_rule rule) message
  message_breaks asked.Dangling = (λ h. rw found h, λ h. rw found at h)
  message_breaks asked.BadCurrency = (λ h. h, λ h. h)
  message_breaks asked.NotOneReference = (λ h. rw found h, λ h. rw found at h)
  message_breaks asked.BadName = (λ h. rw found h, λ h. rw found at h)
  message_breaks asked.TagTwice = (λ h. rw found h, λ h. rw found at h)
  message_breaks asked.BadBounds = (λ h. rw found h, λ h. rw found at h)
  message_breaks asked.OptionalAlternative = (λ h. absurd h, λ h. absurd (no_message R IsOptionalChoice h))
  message_breaks asked.NoAlternatives = (λ h. absurd h, λ h. absurd (no_message R IsEmptyChoice h))

pub subject_breaks : (R : Contents) (m : List ℕ) (p : Place) (s : Subject) (rule : StructureRule) → IsSubject R m p s → BreaksStructureRule R rule s ↔ Breaks R m (asked_rule rule) p
subject_breaks R m p (subject.Entry o) rule (id, at, found) = subst (λ q. BreaksStructureRule R rule (subject.Entry o) ↔ Breaks R m (asked_rule rule) q) (sym at) (entry_breaks R m id o found rule)
subject_breaks R m p (subject.Message d) rule (at, found) = subst (λ q. BreaksStructureRule R rule (subject.Message d) ↔ Breaks R m (asked_rule rule) q) (sym at) (message_breaks R m d found rule)

-- an id that names no object breaks none of these
module _ (R : Contents) (m : List ℕ) (id : List ℕ) (none : find_entry id R.objects ≡ None) where
  nothing : (e : ElementDef) → Contains (elements_of R m (entry id)) e → ⊥
  nothing e has = none_in e (subst (λ (o : Option Object). Contains (elements_or_none o) e) none has)

  no_currency : (c : List ℕ) → currency_of R (entry id) ≡ Some c → ⊥
  no_currency c is = (let h : currency_or_none None ≡ Some c = subst (λ (o : Option Object). currency_or_none o ≡ Some c) none is in cc)

  no_one : (Says : Object → Type 0) → OfObject R (entry id) Says → ⊥
  no_one Says (other, x, at, there, h) =
      let same_id : id ≡ other = cc in
      let here : find_entry id R.objects ≡ Some x = subst (λ z. find_entry z R.objects ≡ Some x) (sym same_id) there in
      cc

  pub absent_breaks : (rule : StructureRule) → Breaks R m (asked_rule rule) (entry id) → ⊥
  absent_breaks asked.Dangling (inl (e, other, has, names, h)) = nothing e has
  absent_breaks asked.Dangling (inr (c, is, h)) = no_currency c is
  absent_breaks asked.BadCurrency (c, o, is, there, h) = no_currency c is
  absent_breaks asked.NotOneReference (e, has, h) = nothing e has
  absent_breaks asked.BadName h = (let g : HasBadName [] = rw none at h in none_in g.0 g.1)
  absent_breaks asked.TagTwice (i, j, a, b, l, at_i, at_j, h) = nothing a (contained (elements_of R m (entry id)) i a at_i)
  absent_breaks asked.BadBounds (e, has, h) = nothing e has
  absent_breaks asked.OptionalAlternative h = no_one IsOptionalChoice h
  absent_breaks asked.NoAlternatives h = no_one IsEmptyChoice h
