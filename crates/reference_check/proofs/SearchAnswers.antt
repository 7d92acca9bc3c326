-- What the functions of the search answer, by their parts.
use Rattle.std.proofs.Common.{◌≡◌, ℕ, zero, suc, ◌+◌, ◌<◌, Bool, true, false, IsTrue, true≢false, List, [], ◌∷◌, ◌++◌, length, Option, Some, None, is_some, Result, Ok, Err, refl, sym, ap, ◌∙◌, subst, arith, ◌⊎◌, inl, inr, ◌↔◌}
use Rattle.std.specs.Prelude.{slice_get, slice_set, slice_index_or, Contains, IfSome, IsSome, OnOk}
use Rattle.std.proofs.lemmas.Option.{slice_get_within, slice_get-get_or, get_or_from_slice_get}
use Rattle.std.proofs.lemmas.List.Elements.{Contains-append_left, Contains-append_right, Contains-append_cases}
use Rattle.std.proofs.lemmas.Bool.{cases_eq}
use native.Mathlib.Decide.{dec_lt}
use Rattle.repo_objects.specs.declared.objects.ElementDef.{ElementDef}
use Rattle.repo_objects.specs.declared.objects.Object.{Object}
use Rattle.repo_objects.specs.declared.objects.ObjectKind.{ObjectKind}
use Rattle.repo_objects.specs.declared.objects.ObjectKind.TheVariants.{Component}
use Rattle.repo_objects.specs.Repository.{DictionaryEntry, Contents, HasId, HasIdAt, IsRepository}
use Rattle.reference_check.specs.declared.finite.Mark.{Mark}
use Rattle.reference_check.specs.declared.finite.Mark.TheVariants.{Unreached, Open, Finite}
use Rattle.reference_check.specs.Graph.{references}
use Rattle.reference_check.specs.inner.FiniteSearch.{only_one, TellsTarget, IsFoundAt, IsFree, IsBlocked, TellsFree, AreFree, TellsBlocked, LetThrough, HoldBack, TellsHeld, IsUser, IsListedFor, IsListedForAll, IsUserListed, AreListed, KeepsUsers, free_of, IsStartMark, AreStart}
use Rattle.reference_check.proofs.Targets.{target_found, target_missing}
use Rattle.reference_check.proofs.Freed.{get_set_same, get_set_other}

-- ---- what an element leads to

pub target_tells : (R : Contents) (d : ElementDef) (id : List ℕ) (o : Option ℕ) → IsRepository R → only_one (references d) ≡ Some id → IfSome o (λ k. HasIdAt R.objects k id) → (IsSome o ↔ HasId R.objects id) → TellsTarget R.objects d o
target_tells R d id None whole one found there = target_missing R.objects d id one (λ h. true≢false (sym (there.1 h)))
target_tells R d id (Some k) whole one found there = target_found R d id k whole one found

pub free_tells : (es : List DictionaryEntry) (marks : List Mark) (d : ElementDef) (k : ℕ) (b : Bool) → (d.min ≡ 0 → ⊥) → TellsTarget es d (Some k) → (IsTrue b ↔ IsFoundAt marks k) → TellsFree es marks d b
free_tells es marks d k true must (leads, one) found = inr (k, leads, found.0 refl)
free_tells es marks d k false must (leads, one) found = (must, λ j other is. absurd (true≢false (sym (found.1 (subst (λ (x : ℕ). IsFoundAt marks x) (one j other) is)))))

-- ---- runs of elements

pub free_one_more : (es : List DictionaryEntry) (marks : List Mark) (ds : List ElementDef) (low at : ℕ) (d : ElementDef) → slice_get ds at ≡ Some d → IsFree es marks d → AreFree es marks ds low at → AreFree es marks ds low (at + 1)
free_one_more es marks ds low at d is free before i x l h got = go (cases_eq i at)
  where
    go : (i ≡ at) ⊎ (i ≡ at → ⊥) → IsFree es marks x
    go (inl same) = (let e : d ≡ x = (let q : ◌≡◌ {A = Option ElementDef} (Some d) (Some x) = sym is ∙ (ap (slice_get ds) (sym same) ∙ got) in cc) in subst (λ (y : ElementDef). IsFree es marks y) e free)
    go (inr other) = before i x l (omega arith) got

abbrev pub AreBlocked : List DictionaryEntry → List Mark → List ElementDef → ℕ → Type 0
AreBlocked es marks ds high = (i : ℕ) (d : ElementDef) → i < high → slice_get ds i ≡ Some d → IsBlocked es marks [] d

-- the element that a loop reads
pub read : {A : Type 0} (xs : List A) (i : ℕ) (x : A) → i < length xs → x ≡ slice_index_or xs i x → slice_get xs i ≡ Some x
read xs i x h e = slice_get-get_or xs i x h ∙ ap Some (sym e)

-- ---- open objects

pub open_is : (o : Option Mark) (n : ℕ) → free_of o ≡ Some n → o ≡ Some (Open n)
open_is None n e = absurd cc
open_is (Some Unreached) n e = absurd cc
open_is (Some (Open k)) n e = (let same : k ≡ n = cc in ap (λ x. Some (Open x)) same)
open_is (Some Finite) n e = absurd cc

pub not_there : (o : Option Mark) (n : ℕ) → is_some (free_of o) ≡ false → o ≡ Some (Open n) → ⊥
not_there o n e is = true≢false (sym (ap (λ x. is_some (free_of x)) is) ∙ e)

pub none_open : (o : Option Mark) (n : ℕ) → free_of o ≡ None → o ≡ Some (Open n) → ⊥
none_open o n e is = true≢false (sym (ap (λ x. is_some (free_of x)) is) ∙ ap is_some e)

abbrev pub NoneOpen : List Mark → ℕ → Type 0
NoneOpen marks high = (k n : ℕ) → k < high → slice_get marks k ≡ Some (Open n) → ⊥

-- ---- the first marks

contains_more : (places : List ℕ) (p k : ℕ) → Contains (places ++ p ∷ []) k → (k ≡ p → ⊥) → Contains places k
contains_more places p k h other = go (Contains-append_cases places (p ∷ []) k h)
  where
    go : Contains places k ⊎ Contains (p ∷ []) k → Contains places k
    go (inl h) = h
    go (inr (zero, within, e)) = absurd (other (sym e))
    go (inr (suc i, within, e)) = absurd (omega arith)

pub start_more : (places : List ℕ) (marks : List Mark) (p : ℕ) → AreStart places marks → AreStart (places ++ p ∷ []) (slice_set marks p (Open 0))
start_more places marks p start k x got = go (cases_eq k p)
  where
    old : (y : Mark) → slice_get marks k ≡ Some y → (k ≡ p → ⊥) → IsStartMark (places ++ p ∷ []) k y
    old Unreached is other = λ h. start k Unreached is (contains_more places p k h other)
    old (Open n) is other = (let h : (n ≡ 0) × Contains places k = start k (Open n) is in (h.0, Contains-append_left places (p ∷ []) k h.1))
    old Finite is other = start k Finite is

    at_p : k ≡ p → (o : Option Mark) → slice_get marks p ≡ o → IsStartMark (places ++ p ∷ []) k x
    at_p same None is = absurd (let q : ◌≡◌ {A = Option Mark} None (Some x) = sym (past marks p is) ∙ (ap (slice_get (slice_set marks p (Open 0))) (sym same) ∙ got) in cc)
      where
        past : (marks : List Mark) (p : ℕ) → slice_get marks p ≡ None → slice_get (slice_set marks p (Open 0)) p ≡ None
        past [] p e = refl
        past (y ∷ marks) zero e = absurd cc
        past (y ∷ marks) (suc p) e = past marks p e
    at_p same (Some y) is = subst (λ (z : Mark). IsStartMark (places ++ p ∷ []) k z) opened (refl, Contains-append_right places (p ∷ []) k (0, omega arith, sym same))
      where
        opened : Open 0 ≡ x
        opened = (let q : ◌≡◌ {A = Option Mark} (Some (Open 0)) (Some x) = sym (get_set_same marks p (Open 0) y is) ∙ (ap (slice_get (slice_set marks p (Open 0))) (sym same) ∙ got) in cc)

    go : (k ≡ p) ⊎ (k ≡ p → ⊥) → IsStartMark (places ++ p ∷ []) k x
    go (inl same) = at_p same (slice_get marks p) refl
    go (inr other) = old x (sym (get_set_other marks p k (Open 0) other) ∙ got) other

-- ---- users

pub user_kept : (lists : List (List ℕ)) (at user : ℕ) → KeepsUsers lists (slice_set lists at (slice_index_or lists at [] ++ user ∷ []))
user_kept lists at user k u (list, is, h) = go (cases_eq k at)
  where
    go : (k ≡ at) ⊎ (k ≡ at → ⊥) → IsUser (slice_set lists at (slice_index_or lists at [] ++ user ∷ [])) k u
    go (inr other) = (list, get_set_other lists at k _ other ∙ is, h)
    go (inl same) =
        let there : slice_get lists at ≡ Some list = ap (slice_get lists) (sym same) ∙ is in (
          slice_index_or lists at [] ++ user ∷ [],
          ap (slice_get (slice_set lists at (slice_index_or lists at [] ++ user ∷ []))) same ∙ get_set_same lists at (slice_index_or lists at [] ++ user ∷ []) list there,
          Contains-append_left (slice_index_or lists at []) (user ∷ []) u (subst (λ (x : List ℕ). Contains x u) (sym (get_or_from_slice_get lists at list [] there)) h),
        )

pub user_added : (lists : List (List ℕ)) (at user : ℕ) → at < length lists → IsUser (slice_set lists at (slice_index_or lists at [] ++ user ∷ [])) at user
user_added lists at user h = (
  slice_index_or lists at [] ++ user ∷ [],
  get_set_same lists at (slice_index_or lists at [] ++ user ∷ []) (slice_index_or lists at []) (slice_get-get_or lists at [] h),
  Contains-append_right (slice_index_or lists at []) (user ∷ []) user (0, omega arith, refl),
)

pub listed_at : (es : List DictionaryEntry) (users : List (List ℕ)) (u k : ℕ) (d : ElementDef) → TellsTarget es d (Some k) → IsUser users k u → IsListedFor es users u d
listed_at es users u k d (leads, one) user = λ j must other. subst (λ (x : ℕ). IsUser users x u) (sym (one j other)) user

abbrev pub AreListedBelow : List DictionaryEntry → List (List ℕ) → ℕ → List ElementDef → ℕ → Type 0
AreListedBelow es users u ds high = (i : ℕ) (d : ElementDef) → i < high → slice_get ds i ≡ Some d → IsListedFor es users u d

pub listed_more : (es : List DictionaryEntry) (old new : List (List ℕ)) (u : ℕ) (d : ElementDef) → KeepsUsers old new → IsListedFor es old u d → IsListedFor es new u d
listed_more es old new u d kept listed = λ k must leads. kept k u (listed k must leads)

pub listed_one_more : (es : List DictionaryEntry) (old new : List (List ℕ)) (u at : ℕ) (ds : List ElementDef) (d : ElementDef) → slice_get ds at ≡ Some d → KeepsUsers old new → IsListedFor es new u d → AreListedBelow es old u ds at → AreListedBelow es new u ds (at + 1)
listed_one_more es old new u at ds d is kept listed before i x h got = go (cases_eq i at)
  where
    go : (i ≡ at) ⊎ (i ≡ at → ⊥) → IsListedFor es new u x
    go (inl same) = (let e : d ≡ x = (let q : ◌≡◌ {A = Option ElementDef} (Some d) (Some x) = sym is ∙ (ap (slice_get ds) (sym same) ∙ got) in cc) in subst (λ (y : ElementDef). IsListedFor es new u y) e listed)
    go (inr other) = listed_more es old new u x kept (before i x (omega arith) got)

-- ---- results

pub on_ok_two : {T E : Type 0} {P Q S : Type 0} (r : Result T E) → OnOk r P → OnOk r Q → (P → Q → S) → OnOk r S
on_ok_two (Ok x) p q f = f p q
on_ok_two (Err e) p q f = tt

-- ---- one object

pub target_within : (es : List DictionaryEntry) (d : ElementDef) (k : ℕ) → TellsTarget es d (Some k) → k < length es
target_within es d k ((id, one, (e, at, same)), only) = slice_get_within es k e at

joined : (es : List DictionaryEntry) (marks : List Mark) (ds : List ElementDef) (low high : ℕ) → AreFree es marks ds 0 low → AreFree es marks ds low high → AreFree es marks ds 0 high
joined es marks ds low high front rest i d l h got = go (dec_lt i low)
  where
    go : Dec (i < low) → IsFree es marks d
    go (yes q) = front i d l q got
    go (no q) = rest i d (omega arith) h got

pub held_component : (es : List DictionaryEntry) (marks : List Mark) (o : Object) (low : ℕ) (r : Option ℕ) → o.kind ≡ Component → TellsBlocked es marks o.elements low r → TellsHeld es marks o low r
held_component es marks o low None kind rest = λ front. subst (λ (k : ObjectKind). LetThrough es marks k o.elements) (sym kind) (joined es marks o.elements low (length o.elements) front rest)
held_component es marks o low (Some at) kind (d, is, blocked, run) =
    (subst (λ (k : ObjectKind). HoldBack es marks [] k o.elements) (sym kind) (at, d, is, blocked), λ front. joined es marks o.elements low at front run)

-- ---- the users of objects

pub listed_object : (es : List DictionaryEntry) (users : List (List ℕ)) (u : ℕ) (e : DictionaryEntry) → slice_get es u ≡ Some e → IsListedForAll es users u e.object.elements → IsUserListed es users u
listed_object es users u e at listed f got = (let same : e ≡ f = (let q : ◌≡◌ {A = Option DictionaryEntry} (Some e) (Some f) = sym at ∙ got in cc) in subst (λ (x : DictionaryEntry). IsListedForAll es users u x.object.elements) same listed)

pub listed_place_more : (es : List DictionaryEntry) (old new : List (List ℕ)) (places : List ℕ) (p : ℕ) → KeepsUsers old new → IsUserListed es new p → AreListed es old places → AreListed es new (places ++ p ∷ [])
listed_place_more es old new places p kept listed before u h = go (Contains-append_cases places (p ∷ []) u h)
  where
    go : Contains places u ⊎ Contains (p ∷ []) u → IsUserListed es new u
    go (inl h) = λ e at i d is. listed_more es old new u d kept (before u h e at i d is)
    go (inr (zero, within, e)) = subst (λ (x : ℕ). IsUserListed es new x) e listed
    go (inr (suc i, within, e)) = absurd (omega arith)
