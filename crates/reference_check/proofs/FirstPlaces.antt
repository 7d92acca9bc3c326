-- The objects that are reached are asked in file order, and then the message: what comes first.
use Rattle.std.proofs.Common.{◌≡◌, ℕ, zero, suc, ◌<◌, ◌≤◌, ◌+◌, Bool, true, false, true≢false, ◌⊎◌, inl, inr, List, [], ◌∷◌, length, take, get_or, add-one, Some, None, is_some, Contains, refl, sym, ap, subst, ◌∙◌, arith}
use Rattle.std.specs.Prelude.{slice_get}
use Rattle.std.specs.List.{position_or_len}
use Rattle.std.specs.Str.{bytes_eq}
use Rattle.std.proofs.lemmas.Option.{slice_get_within, get_or_from_slice_get}
use Rattle.std.proofs.lemmas.Slice.Eq.{bytes_eq-Decides}
use Rattle.lexical_core.proofs.Tests.{compared}
use Rattle.repo_objects.specs.declared.objects.MessageDef.{MessageDef}
use Rattle.repo_objects.specs.declared.objects.Object.{Object}
use Rattle.repo_objects.specs.Repository.{DictionaryEntry, Contents, IsRepository, HasEntryTexts}
use Rattle.reference_check.specs.declared.reached.Reach.{Reach}
use Rattle.reference_check.specs.declared.breaker.Breaker.TheVariants.{Object as object_breaker, Message as message_breaker}
use Rattle.reference_check.specs.Graph.{Place, message, entry, find_entry, find_message}
use Rattle.reference_check.specs.Reach.{Reaches, itself, rank_of}
use Rattle.reference_check.specs.Reached.{HasReach}
use Rattle.reference_check.specs.Rules.{Rule, Breaks, OfObject}
use Rattle.reference_check.specs.inner.First.{TellsFirst}
use Rattle.reference_check.specs.inner.Ranks.{place_of_entry, place_at, NoneBreaks, StandsAt}
use Rattle.reference_check.proofs.Entries.{stands_first}
use Rattle.reference_check.proofs.Lookups.{find_at}

-- ---- lists

-- what stands before place i
pub in_front : (ks : List ℕ) (i j k : ℕ) → j < i → i < length ks → get_or ks j k ≡ k → Contains (take i ks) k
in_front [] i j k h l e = absurd (omega (arith, l))
in_front (x ∷ ks) zero j k h l e = absurd (omega (arith, h))
in_front (x ∷ ks) (suc i) zero k h l e = (0, omega arith, e)
in_front (x ∷ ks) (suc i) (suc j) k h l e =
    let there = in_front ks i j k (omega arith) (omega arith) e in
    (suc there.0, omega (arith, there.1), there.2)

-- one more place
one_more : (ks : List ℕ) (i k : ℕ) → Contains (take (suc i) ks) k → Contains (take i ks) k ⊎ (get_or ks i k ≡ k)
one_more [] i k h = absurd (omega (arith, h.1))
one_more (x ∷ ks) zero k (zero, l, e) = inr e
one_more (x ∷ ks) zero k (suc j, l, e) = absurd (omega (arith, l))
one_more (x ∷ ks) (suc i) k (zero, l, e) = inl (0, omega arith, e)
one_more (x ∷ ks) (suc i) k (suc j, l, e) = elim (one_more ks i k (j, omega (arith, l), e)) [ inl h ↦ inl (suc h.0, omega (arith, h.1), h.2) | inr same ↦ inr same ]

pub same_default : (xs : List ℕ) (i d e : ℕ) → i < length xs → get_or xs i d ≡ get_or xs i e
same_default [] i d e l = absurd (omega (arith, l))
same_default (x ∷ xs) zero d e l = refl
same_default (x ∷ xs) (suc i) d e l = same_default xs i d e (omega (arith, l))

-- ---- none so far

pub none_more : (R : Contents) (m : List ℕ) (rule : Rule) (ks : List ℕ) (i at : ℕ) → i < length ks → at ≡ get_or ks i at
    → NoneBreaks R m rule (take i ks) → (Breaks R m rule (place_at R at) → ⊥) → NoneBreaks R m rule (take (i + 1) ks)
none_more R m rule ks i at l is none fine k h b =
    elim (one_more ks i k (subst (λ n. Contains (take n ks) k) (add-one i) h)) [
      | inl before ↦ none k before b
      | inr here ↦ fine (let P : ℕ → Type 0 = λ n. Breaks R m rule (place_at R n) in subst P (sym here ∙ same_default ks i k at l ∙ sym is) b)
    ]

pub none_whole : (R : Contents) (m : List ℕ) (rule : Rule) (ks : List ℕ) (i : ℕ) → length ks ≤ i → NoneBreaks R m rule (take i ks) → NoneBreaks R m rule ks
none_whole R m rule ks i e none k h b = none k (whole ks i k e h) b
  where
    whole : (xs : List ℕ) (i k : ℕ) → length xs ≤ i → Contains xs k → Contains (take i xs) k
    whole xs i k e (j, l, is) = at_end xs i j k e l is
      where
        at_end : (xs : List ℕ) (i j k : ℕ) → length xs ≤ i → j < length xs → get_or xs j k ≡ k → Contains (take i xs) k
        at_end [] i j k e l is = absurd (omega (arith, l))
        at_end (x ∷ xs) zero j k e l is = absurd (omega (arith, e))
        at_end (x ∷ xs) (suc i) zero k e l is = (0, omega arith, is)
        at_end (x ∷ xs) (suc i) (suc j) k e l is = let there = at_end xs i j k (omega (arith, e)) (omega (arith, l)) is in (suc there.0, omega (arith, there.1), there.2)

-- ---- what breaks a rule

-- the message, or an object that the dictionary has
pub data Stands (R : Contents) : Place → Type 0 where
  as_message : Stands R message
  as_object : (id : List ℕ) (o : Object) → find_entry id R.objects ≡ Some o → Stands R (entry id)

abbrev pub BreaksWhereItStands : Contents → List ℕ → Rule → Type 0
BreaksWhereItStands R m rule = (p : Place) → Breaks R m rule p → Stands R p

-- the rank of a place that has an object is a place of the dictionary
pub ranked : (R : Contents) (id : List ℕ) (o : Object) → find_entry id R.objects ≡ Some o
    → (k : ℕ) × (k ≡ rank_of R (entry id)) × (place_at R k ≡ entry id) × (e : DictionaryEntry) × (slice_get R.objects k ≡ Some e) × (e.id ≡ id)
ranked R id o h =
    let first = stands_first R.objects id o h in
    (rank_of R (entry id), refl, ap place_of_entry first.at ∙ ap entry first.id_is, first.entry, first.at, first.id_is)

-- a reached object is among those that are asked
pub asked : (R : Contents) (m : List ℕ) (r : Reach) (id : List ℕ) (o : Object) → HasReach R m r → find_entry id R.objects ≡ Some o → Reaches R m (entry id)
    → (k : ℕ) × (k ≡ rank_of R (entry id)) × (place_at R k ≡ entry id) × Contains r.objects k
asked R m r id o has h reached =
    let (k, rank, place, e, at, is) = ranked R id o h in
    (k, rank, place, (has.reached k e at).1 (subst (Reaches R m) (sym (ap entry is)) reached))

pub tells_none : (R : Contents) (m : List ℕ) (rule : Rule) (r : Reach) → HasReach R m r → BreaksWhereItStands R m rule → NoneBreaks R m rule r.objects
    → (Breaks R m rule message → ⊥) → TellsFirst R m rule None
tells_none R m rule r has stands none fine p reached broken = by (stands p broken) reached broken
  where
    by : {p : Place} → Stands R p → Reaches R m p → Breaks R m rule p → ⊥
    by as_message reached broken = fine broken
    by (as_object id o h) reached broken =
        let (k, rank, place, among) = asked R m r id o has h reached in
        none k among (subst (Breaks R m rule) (sym place) broken)

pub tells_message : (R : Contents) (m : List ℕ) (rule : Rule) (r : Reach) → HasReach R m r → BreaksWhereItStands R m rule → NoneBreaks R m rule r.objects
    → Breaks R m rule message → TellsFirst R m rule (Some message_breaker)
tells_message R m rule r has stands none broken = (message, refl, record { reached = itself; broken = broken; first = λ q lower reached b. by (stands q b) lower reached b })
  where
    by : {q : Place} → Stands R q → rank_of R q < length R.objects → Reaches R m q → Breaks R m rule q → ⊥
    by as_message lower reached b = omega (arith, lower)
    by (as_object id o h) lower reached b =
        let (k, rank, place, among) = asked R m r id o has h reached in
        none k among (subst (Breaks R m rule) (sym place) b)

-- places rise, so a smaller one stands before
pub rises_to : (R : Contents) (m : List ℕ) (r : Reach) (i at j k : ℕ) → HasReach R m r → i < length r.objects → at ≡ get_or r.objects i at → j < length r.objects → get_or r.objects j k ≡ k → k < at → j < i
rises_to R m r i at j k has l is long same below = by (compared j i)
  where
    at_k : get_or r.objects i k ≡ at
    at_k = same_default r.objects i k at l ∙ sym is

    by : (j < i) ⊎ ((j ≡ i) ⊎ (i < j)) → j < i
    by (inl before) = before
    by (inr (inl here)) = let same_place : get_or r.objects i k ≡ k = subst (λ n. get_or r.objects n k ≡ k) here same in absurd (omega (arith, at_k, same_place, below))
    by (inr (inr behind)) = let rise = has.rising i j k behind long in absurd (omega (arith, rise, at_k, same, below))

-- the first place of an object is not behind its own
first_place : (es : List DictionaryEntry) (k : ℕ) (e : DictionaryEntry) → slice_get es k ≡ Some e → position_or_len (λ (x : DictionaryEntry). bytes_eq x.id e.id) es < suc k
first_place [] k e h = omega arith
first_place (x ∷ es) zero e h = let same : bytes_eq x.id e.id ≡ true = (bytes_eq-Decides x.id e.id).1 (let is : x ≡ e = cc in ap (λ (v : DictionaryEntry). v.id) is) in rw same (omega arith)
first_place (x ∷ es) (suc k) e h = by (bytes_eq x.id e.id) refl (first_place es k e h)
  where
    by : (b : Bool) → bytes_eq x.id e.id ≡ b → position_or_len (λ (x : DictionaryEntry). bytes_eq x.id e.id) es < suc k → position_or_len (λ (x : DictionaryEntry). bytes_eq x.id e.id) (x ∷ es) < suc (suc k)
    by true is before = rw is (omega arith)
    by false is before = rw is (omega arith)

pub tells_object : (R : Contents) (m : List ℕ) (rule : Rule) (r : Reach) (i at : ℕ) (e : DictionaryEntry) → HasReach R m r → BreaksWhereItStands R m rule → i < length r.objects → at ≡ get_or r.objects i at
    → slice_get R.objects at ≡ Some e → NoneBreaks R m rule (take i r.objects) → Breaks R m rule (entry e.id) → TellsFirst R m rule (Some (object_breaker at))
tells_object R m rule r i at e has stands l is there none broken =
    (entry e.id, (e, there, refl), record { reached = (has.reached at e there).0 (i, l, sym is); broken = broken; first = λ q lower reached b. by (stands q b) lower reached b })
  where
    low : rank_of R (entry e.id) < suc at
    low = first_place R.objects at e there

    short : at < length R.objects
    short = slice_get_within R.objects at e there

    by : {q : Place} → Stands R q → rank_of R q < rank_of R (entry e.id) → Reaches R m q → Breaks R m rule q → ⊥
    by as_message lower reached b = omega (arith, lower, low, short)
    by (as_object id o h) lower reached b =
        let (k, rank, place, (j, long, same)) = asked R m r id o has h reached in
        let below : k < at = omega (arith, lower, low, rank) in
        none k (in_front r.objects i j k (rises_to R m r i at j k has l is long same below) l same) (subst (Breaks R m rule) (sym place) b)

-- ---- what is said of an object

pub of_object : (R : Contents) (id : List ℕ) (o : Object) (Says : Object → Type 0) → find_entry id R.objects ≡ Some o → OfObject R (entry id) Says → Says o
of_object R id o Says found (other, p, is, there, says) =
    let ids : id ≡ other = cc in
    let same : Some p ≡ Some o = sym there ∙ ap (λ v. find_entry v R.objects) (sym ids) ∙ found in
    let object : p ≡ o = cc in subst Says object says

pub placed : (R : Contents) (at : ℕ) (o : Object) (s : StandsAt R at o) → place_at R at ≡ entry s.stored.id
placed R at o s = ap place_of_entry s.there

-- ---- a loop over the objects that are reached

module _ (R : Contents) (m : List ℕ) (rule : Rule) (r : Reach) (items : List ℕ) (i : ℕ) (o : Object) where
  -- the place that is asked
  abbrev pub asked_at : ℕ
  asked_at = get_or items i 0

  pub asked_there : items ≡ r.objects → i < length items → asked_at ≡ get_or r.objects i asked_at
  asked_there are l = same_default items i 0 asked_at l ∙ ap (λ ks. get_or ks i asked_at) are

  pub asked_within : items ≡ r.objects → i < length items → i < length r.objects
  asked_within are l = subst (λ ks. i < length ks) are l

  pub place_breaks : items ≡ r.objects → i < length items → HasReach R m r → BreaksWhereItStands R m rule → StandsAt R asked_at o → NoneBreaks R m rule (take i r.objects)
      → Breaks R m rule (place_at R asked_at) → TellsFirst R m rule (Some (object_breaker asked_at))
  place_breaks are l has stands at none breaks =
      tells_object R m rule r i asked_at at.stored has stands (asked_within are l) (asked_there are l) at.there none (subst (Breaks R m rule) (placed R asked_at o at) breaks)

  pub place_is_fine : items ≡ r.objects → i < length items → NoneBreaks R m rule (take i r.objects) → (Breaks R m rule (place_at R asked_at) → ⊥) → NoneBreaks R m rule (take (i + 1) r.objects)
  place_is_fine are l none fine = none_more R m rule r.objects i asked_at (asked_within are l) (asked_there are l) none fine

  pub object_breaks : items ≡ r.objects → i < length items → HasReach R m r → BreaksWhereItStands R m rule → StandsAt R asked_at o → NoneBreaks R m rule (take i r.objects)
      → ((id : List ℕ) → find_entry id R.objects ≡ Some o → Breaks R m rule (entry id)) → TellsFirst R m rule (Some (object_breaker asked_at))
  object_breaks are l has stands at none breaks = place_breaks are l has stands at none (subst (Breaks R m rule) (sym (placed R asked_at o at)) (breaks at.stored.id at.found))

  pub object_is_fine : items ≡ r.objects → i < length items → StandsAt R asked_at o → NoneBreaks R m rule (take i r.objects)
      → ((id : List ℕ) → find_entry id R.objects ≡ Some o → Breaks R m rule (entry id) → ⊥) → NoneBreaks R m rule (take (i + 1) r.objects)
  object_is_fine are l at none fine = place_is_fine are l none (λ b. fine at.stored.id at.found (subst (Breaks R m rule) (placed R asked_at o at) b))

  pub place_within : items ≡ r.objects → i < length items → HasReach R m r → asked_at < length R.objects
  place_within are l has = subst (λ n. n < length R.objects) (sym (asked_there are l)) (has.within i asked_at (asked_within are l))

pub all_asked : (R : Contents) (m : List ℕ) (rule : Rule) (r : Reach) (items : List ℕ) (i : ℕ) → items ≡ r.objects → length items ≤ i → NoneBreaks R m rule (take i r.objects) → NoneBreaks R m rule r.objects
all_asked R m rule r items i are l none = none_whole R m rule r.objects i (subst (λ ks. length ks ≤ i) are l) none

entry_texts : (R : Contents) (at : ℕ) (e : DictionaryEntry) → IsRepository R → slice_get R.objects at ≡ Some e → HasEntryTexts e
entry_texts R at e whole there = subst HasEntryTexts (get_or_from_slice_get R.objects at e e there) (whole.object_texts at e (slice_get_within R.objects at e there))

pub stands_at : (R : Contents) (at : ℕ) (e : DictionaryEntry) → Some e ≡ slice_get R.objects at → IsRepository R → StandsAt R at e.object
stands_at R at e there whole = record { stored = e; there = sym there; object_is = refl; found = find_at R.objects at e whole.distinct (sym there); whole = whole; texts = (entry_texts R at e whole (sym there)).object }

-- ---- a rule on objects alone

pub stands_as_object : (R : Contents) (Says : Object → Type 0) (p : Place) → OfObject R p Says → Stands R p
stands_as_object R Says p (id, o, is, found, says) = subst (Stands R) (sym is) (as_object id o found)

pub no_message : (R : Contents) (Says : Object → Type 0) → OfObject R message Says → ⊥
no_message R Says (id, o, is, found, says) = cc

pub message_id : (m : List ℕ) (ds : List MessageDef) (d : MessageDef) → find_message m ds ≡ Some d → d.id ≡ m
message_id m [] d h = absurd (true≢false (sym (ap is_some h)))
message_id m (x ∷ ds) d h = by (bytes_eq x.id m) refl (message_id m ds d)
  where
    by : (b : Bool) → bytes_eq x.id m ≡ b → (find_message m ds ≡ Some d → d.id ≡ m) → d.id ≡ m
    by true is later = let same : Some x ≡ Some d = rw is at h in let one : x ≡ d = cc in ap (λ (v : MessageDef). v.id) (sym one) ∙ (bytes_eq-Decides x.id m).0 is
    by false is later = later (rw is at h)
