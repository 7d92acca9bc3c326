-- First faults where there may be more bytes than an instance has at most.
use Rattle.std.proofs.Common.{◌≡◌, ◌⊎◌, inl, inr, ℕ, ◌<◌, ◌≤◌, List, length, take, codes, Option, Some, None, IfErr, IfSome, Result, Ok, Err, refl, sym, ap, ◌∙◌, arith}
use Rattle.std.proofs.lemmas.Bool.{cases_lt}
use Rattle.std.proofs.lemmas.List.{length-take-le}
use Rattle.lexical_core.specs.declared.rule.Rule.{Rule}
use Rattle.message_model.specs.declared.fault.Fault.{Fault}
use Rattle.transcoder.specs.declared.check_error.CheckError.{CheckError}
use Rattle.transcoder.specs.declared.check_error.CheckError.TheVariants as check
use Rattle.transcoder.specs.CheckErrors.{RefusesBy, IsOfSome}
use Rattle.transcoder.specs.Limited.{most_bytes, too_many, IsLimited, within, before, open_at, over_at}
use Rattle.transcoder.specs.Pulls.{PullsToFault}
use Rattle.transcoder.specs.inner.Reading.{GivesSome}
use Rattle.transcoder.proofs.Readings.{pulls_as}

both : {A : Type 0} (bytes : List ℕ) → length bytes ≤ most_bytes → most_bytes < length bytes → A
both bytes short long = absurd (omega (arith, short, long))

module _ (IsFaulty : List ℕ → Fault → Type 0) (IsInstance : List ℕ → Type 0) (cut_rule : Rule) where
  -- bytes within the limit have their first fault alone
  unlimited : (bytes : List ℕ) (f : Fault) → length bytes ≤ most_bytes → IsLimited IsFaulty IsInstance cut_rule bytes f → IsFaulty bytes f
  unlimited bytes f short (within s h) = h
  unlimited bytes f short (before long h other) = both bytes short long
  unlimited bytes f short (open_at g long h is told) = both bytes short long
  unlimited bytes f short (over_at long i told) = both bytes short long

  -- an instance has no fault
  abbrev HaveNone : Type 0
  HaveNone = (bytes : List ℕ) (f : Fault) → length bytes ≤ most_bytes → IsInstance bytes → IsFaulty bytes f → ⊥

  pub accepted_has_none : HaveNone → (bytes : List ℕ) (f : Fault) → IsInstance bytes → length bytes ≤ most_bytes → IsLimited IsFaulty IsInstance cut_rule bytes f → ⊥
  accepted_has_none none bytes f is short h = none bytes f short is (unlimited bytes f short h)

  -- nor do the bytes before the limit
  none_before : HaveNone → {A : Type 0} (bytes : List ℕ) (f : Fault) → most_bytes < length bytes → IsInstance (take most_bytes bytes) → IsFaulty (take most_bytes bytes) f → A
  none_before none bytes f long is h = absurd (none (take most_bytes bytes) f (let size = length-take-le most_bytes bytes (omega (arith, long)) in omega (arith, size)) is h)

  pub one_limited : ((bytes : List ℕ) (f g : Fault) → IsFaulty bytes f → IsFaulty bytes g → f ≡ g) → HaveNone → (bytes : List ℕ) (f g : Fault)
      → IsLimited IsFaulty IsInstance cut_rule bytes f → IsLimited IsFaulty IsInstance cut_rule bytes g → f ≡ g
  one_limited one none bytes f g (within s h) (within t k) = one bytes f g h k
  one_limited one none bytes f g (within s h) (before t k n) = both bytes s t
  one_limited one none bytes f g (within s h) (open_at b t k r e) = both bytes s t
  one_limited one none bytes f g (within s h) (over_at t i e) = both bytes s t
  one_limited one none bytes f g (before s h n) (within t k) = both bytes t s
  one_limited one none bytes f g (before s h n) (before t k o) = one (take most_bytes bytes) f g h k
  one_limited one none bytes f g (before s h n) (open_at b t k r e) = absurd (n (ap (λ (v : Fault). v.rule) (one (take most_bytes bytes) f b h k) ∙ r))
  one_limited one none bytes f g (before s h n) (over_at t i e) = none_before none bytes f s i h
  one_limited one none bytes f g (open_at a s h r d) (within t k) = both bytes t s
  one_limited one none bytes f g (open_at a s h r d) (before t k n) = absurd (n (ap (λ (v : Fault). v.rule) (one (take most_bytes bytes) g a k h) ∙ r))
  one_limited one none bytes f g (open_at a s h r d) (open_at b t k q e) = d ∙ (ap (λ (v : Fault). too_many v.path) (one (take most_bytes bytes) a b h k) ∙ sym e)
  one_limited one none bytes f g (open_at a s h r d) (over_at t i e) = none_before none bytes a s i h
  one_limited one none bytes f g (over_at s i d) (within t k) = both bytes t s
  one_limited one none bytes f g (over_at s i d) (before t k n) = none_before none bytes g s i k
  one_limited one none bytes f g (over_at s i d) (open_at b t k q e) = none_before none bytes b s i k
  one_limited one none bytes f g (over_at s i d) (over_at t j e) = d ∙ sym e

  -- no bytes are without a verdict
  pub some_limited : ((bytes : List ℕ) → ¬ (¬ (IsInstance bytes ⊎ ((f : Fault) × IsFaulty bytes f)))) → (bytes : List ℕ)
      → ¬ (¬ ((IsInstance bytes × (length bytes ≤ most_bytes)) ⊎ ((f : Fault) × IsLimited IsFaulty IsInstance cut_rule bytes f)))
  some_limited some bytes lacks = elim (cases_lt most_bytes (length bytes)) [
    | inl long ↦ some (take most_bytes bytes) (of_long long)
    | inr short ↦ some bytes (of_short short)
  ]
    where
      of_short : length bytes ≤ most_bytes → (IsInstance bytes ⊎ ((f : Fault) × IsFaulty bytes f)) → ⊥
      of_short short (inl is) = lacks (inl (is, short))
      of_short short (inr (f, h)) = lacks (inr (f, within short h))

      of_long : most_bytes < length bytes → (IsInstance (take most_bytes bytes) ⊎ ((f : Fault) × IsFaulty (take most_bytes bytes) f)) → ⊥
      of_long long (inl is) = lacks (inr (too_many (codes "/"), over_at long is refl))
      of_long long (inr (f, h)) = lacks (inr (f, before long h (λ is. lacks (inr (too_many f.path, open_at f long h is refl)))))

  -- how far a source was pulled for a fault under the limit
  pub pulls_left : {W : Type 0} (old now : Option (List ℕ)) (r : Result W CheckError) → IfErr r (λ e. PullsToFault IsFaulty cut_rule old now e)
      → IfErr r (λ e. PullsToFault (IsLimited IsFaulty IsInstance cut_rule) cut_rule old now e)
  pulls_left old now r h = pulls_as IsFaulty (IsLimited IsFaulty IsInstance cut_rule) cut_rule old now unlimited r h

  -- what is told of bytes by what is given of them is told by what they are
  module _ {W : Type 0} (Gives : List ℕ → W → Type 0) (is : (bytes : List ℕ) (x : W) → Gives bytes x → IsInstance bytes) where
    limited : (bytes : List ℕ) (fault : Fault) → IsLimited IsFaulty (GivesSome Gives) cut_rule bytes fault → IsLimited IsFaulty IsInstance cut_rule bytes fault
    limited bytes fault (within short h) = within short h
    limited bytes fault (before long h other) = before long h other
    limited bytes fault (open_at f long h cut told) = open_at f long h cut told
    limited bytes fault (over_at long (x, given) told) = over_at long (is _ x given) told

    refuses : (bytes : List ℕ) (e : CheckError) → RefusesBy (IsLimited IsFaulty (GivesSome Gives) cut_rule) bytes e → RefusesBy (IsLimited IsFaulty IsInstance cut_rule) bytes e
    refuses bytes (check.Refused fault) h = limited bytes fault h
    refuses bytes check.ReadFault h = tt
    refuses bytes check.Memory h = tt

    pub refuses_left : {U : Type 0} (left : Option (List ℕ)) (r : Result U CheckError) → IfErr r (λ e. IfSome left (λ bytes. RefusesBy (IsLimited IsFaulty (GivesSome Gives) cut_rule) bytes e))
        → IfErr r (λ e. IfSome left (λ bytes. RefusesBy (IsLimited IsFaulty IsInstance cut_rule) bytes e))
    refuses_left left (Ok x) h = tt
    refuses_left None (Err e) h = tt
    refuses_left (Some bytes) (Err e) h = refuses bytes e h

    pub of_some : {U : Type 0} (r : Result U CheckError) → IfErr r (λ e. IsOfSome (IsLimited IsFaulty (GivesSome Gives) cut_rule) e) → IfErr r (λ e. IsOfSome (IsLimited IsFaulty IsInstance cut_rule) e)
    of_some (Ok x) h = tt
    of_some (Err (check.Refused fault)) (bytes, h) = (bytes, limited bytes fault h)
    of_some (Err check.ReadFault) h = tt
    of_some (Err check.Memory) h = tt
