-- The last owner of each schema type name, and which names stand for two objects.
use Rattle.std.proofs.Common.{◌≡◌, ◌≢◌, ℕ, zero, suc, ◌<◌, ◌≤◌, ◌+◌, ◌⊎◌, inl, inr, Bool, true, false, ◌||◌, true≢false, List, [], ◌∷◌, ◌++◌, length, take, get_or, Option, Some, None, is_some, Contains, refl, sym, ap, subst, ◌∙◌, arith}
use Rattle.std.specs.Prelude.{codes, slice_get}
use Rattle.std.specs.Bool.{if◌then◌else◌}
use Rattle.std.specs.Global.{Vec}
use Rattle.std.specs.HashMap.{HashMap}
use Rattle.std.specs.List.{list_any}
use Rattle.std.specs.Map.{lookup, IsKeyTest, AreApart, KeepsOthers}
use Rattle.std.specs.Str.{bytes_eq}
use Rattle.std.proofs.lemmas.Cmp.{nat_list_eq_equiv}
use Rattle.std.proofs.lemmas.List.{take_all, take_more}
use Rattle.std.proofs.lemmas.List.Elements.{Contains-append_left, Contains-push, Contains-push_cases}
use Rattle.std.proofs.lemmas.List.Folds.{list_any-append}
use Rattle.std.proofs.lemmas.Map.Views.{list_any-from_Contains, Contains-from_any}
use Rattle.std.proofs.lemmas.Option.{slice_get_within, slice_get_past}
use Rattle.std.proofs.lemmas.Slice.Eq.{bytes_eq-Decides}
use Rattle.lexical_core.proofs.Tests.{compared}
use Rattle.lexical_core.proofs.EqualBytes.{other_bytes}
use Rattle.repo_objects.specs.declared.objects.MessageDef.{MessageDef}
use Rattle.repo_objects.specs.declared.objects.Object.{Object}
use Rattle.repo_objects.specs.Repository.{DictionaryEntry, Contents, IsRepository}
use Rattle.reference_check.specs.declared.reached.Reach.{Reach}
use Rattle.reference_check.specs.Graph.{Place, document, message, entry, nowhere, find_entry}
use Rattle.reference_check.specs.inner.Owners.{owner_of, HasName, IsLastOwner, OwnersAre, object_type_names}
use Rattle.reference_check.specs.inner.Ranks.{place_of_entry, place_at, NoneBreaks, StandsAt}
use Rattle.reference_check.specs.Reach.{Reaches, itself, currency_or_none}
use Rattle.reference_check.specs.Reached.{HasReach}
use Rattle.reference_check.specs.Rules.{Breaks, NameTwice, schema_names, object_names, message_names, with_currency}
use Rattle.reference_check.proofs.FirstPlaces.{Stands, as_message, as_object, BreaksWhereItStands, asked, placed, same_default, in_front, rises_to}
use Rattle.reference_check.proofs.ReachCounts.{other_ids, entry_within}

-- ---- the map of owners

abbrev keyed : List ℕ → Vec ℕ → Bool
keyed q = λ k. bytes_eq q k.items

abbrev same_bytes : Vec ℕ → Vec ℕ → Bool
same_bytes x y = bytes_eq x.items y.items

others : (test : Vec ℕ → Bool) (old new : List (Vec ℕ × ℕ)) → KeepsOthers same_bytes test old new → (other : Vec ℕ → Bool) → IsKeyTest same_bytes other → AreApart test other → lookup other new ≡ lookup other old
unfolding KeepsOthers
others test old new h = h

-- a name has its new owner, and the other names keep theirs
pub owner_updated : {S : Type 0} (m n : HashMap (Vec ℕ) ℕ S) (p : List ℕ) (rank : ℕ) → lookup (keyed p) n.entries ≡ Some rank → KeepsOthers same_bytes (keyed p) m.entries n.entries
    → (q : List ℕ) → owner_of n q ≡ (if bytes_eq p q then Some rank else owner_of m q)
owner_updated m n p rank here kept q = by (bytes_eq p q) refl
  where
    by : (b : Bool) → bytes_eq p q ≡ b → owner_of n q ≡ (if b then Some rank else owner_of m q)
    by true is = subst (λ l. lookup (keyed l) n.entries ≡ Some rank) ((bytes_eq-Decides p q).0 is) here
    by false is =
        others (keyed p) m.entries n.entries kept (keyed q) (λ x y. nat_list_eq_equiv.congr q x.items y.items)
        (λ k found. other_bytes q k.items (λ same. true≢false (sym ((bytes_eq-Decides p q).1 ((bytes_eq-Decides p k.items).0 found ∙ sym same)) ∙ is)))

-- one more name of the list
pub owned_one_more : (names : List (List ℕ)) (i : ℕ) (name q : List ℕ) (rank : ℕ) (first old new : Option ℕ) → i < length names → name ≡ get_or names i name
    → new ≡ (if bytes_eq name q then Some rank else old) → old ≡ (if list_any (bytes_eq q) (take i names) then Some rank else first)
    → new ≡ (if list_any (bytes_eq q) (take (i + 1) names) then Some rank else first)
owned_one_more names i name q rank first old new l is step before =
    step ∙ ap (λ o. if bytes_eq name q then Some rank else o) before
    ∙ either (bytes_eq name q) (list_any (bytes_eq q) (take i names)) ∙ ap (λ b. if b then Some rank else first) (sym more)
  where
    either : (here before : Bool) → (if here then Some rank else (if before then Some rank else first)) ≡ (if before || here then Some rank else first)
    either true true = refl
    either true false = refl
    either false true = refl
    either false false = refl

    or_none : (a b : Bool) → (a || (b || false)) ≡ (a || b)
    or_none true b = refl
    or_none false true = refl
    or_none false false = refl

    more : list_any (bytes_eq q) (take (i + 1) names) ≡ (list_any (bytes_eq q) (take i names) || bytes_eq name q)
    more =
        ap (list_any (bytes_eq q)) (take_more names i name l ∙ ap (λ x. take i names ++ x ∷ []) (sym is)) ∙ list_any-append (bytes_eq q) (take i names) (name ∷ [])
        ∙ or_none (list_any (bytes_eq q) (take i names)) (bytes_eq q name) ∙ ap (λ b. list_any (bytes_eq q) (take i names) || b) (nat_list_eq_equiv.symm q name)

-- ---- the names of places

pub names_with : (name : List ℕ) (r : Option (List ℕ)) → is_some r ≡ true → name ∷ ((name ++ codes "_SimpleType") ∷ []) ≡ with_currency name r
names_with name None h = absurd (true≢false (sym h))
names_with name (Some id) h = refl

-- the two names, as they are put one after the other
pub names_made : (name first second copy : List ℕ) (none one two : List (List ℕ)) (r : Option (List ℕ)) → is_some r ≡ true → none ≡ [] → first ≡ name → one ≡ none ++ first ∷ [] → copy ≡ name
    → second ≡ copy ++ codes "_SimpleType" → two ≡ one ++ second ∷ [] → two ≡ with_currency name r
names_made name first second copy none one two r some none_is first_is one_is copy_is second_is two_is =
    let made : two ≡ first ∷ (second ∷ []) = two_is ∙ ap (λ xs. xs ++ second ∷ []) (one_is ∙ ap (λ xs. xs ++ first ∷ []) none_is) in
    made ∙ ap (λ x. x ∷ (second ∷ [])) first_is ∙ ap (λ x. name ∷ (x ∷ [])) (second_is ∙ ap (λ x. x ++ codes "_SimpleType") copy_is) ∙ names_with name r some

pub names_at : (R : Contents) (m : List ℕ) (k : ℕ) (o : Object) → StandsAt R k o → object_type_names o ≡ schema_names R m (place_at R k)
names_at R m k o at = sym (ap (schema_names R m) (placed R k o at) ∙ ap (λ r. object_names r (currency_or_none r)) at.found)

pub last_is_message : (R : Contents) → place_at R (length R.objects) ≡ message
last_is_message R = ap place_of_entry (slice_get_past R.objects (length R.objects) (omega arith))

pub names_of_message : (R : Contents) (m : List ℕ) (r : Reach) (d : MessageDef) → HasReach R m r → slice_get R.messages r.message ≡ Some d → d.name ∷ [] ≡ schema_names R m (place_at R (length R.objects))
names_of_message R m r d has at = sym (ap (schema_names R m) (last_is_message R) ∙ ap message_names (has.first ∙ sym has.message_is ∙ at))

-- ---- one more owner

pub last_owner_more : (R : Contents) (m : List ℕ) (ks : List ℕ) (k : ℕ) (names : List (List ℕ)) (name : List ℕ) (old new : Option ℕ) → ((j : ℕ) → Contains ks j → j < k)
    → names ≡ schema_names R m (place_at R k) → new ≡ (if list_any (bytes_eq name) names then Some k else old) → IsLastOwner R m ks name old → IsLastOwner R m (ks ++ k ∷ []) name new
last_owner_more R m ks k names name old new below are step before = by (list_any (bytes_eq name) names) refl
  where
    own : list_any (bytes_eq name) names ≡ false → HasName R m name k → ⊥
    own none has = true≢false (sym (subst (λ ns. list_any (bytes_eq name) ns ≡ true) (sym are) (list_any-from_Contains nat_list_eq_equiv name (schema_names R m (place_at R k)) has)) ∙ none)

    kept : (r : Option ℕ) → (HasName R m name k → ⊥) → IsLastOwner R m ks name r → IsLastOwner R m (ks ++ k ∷ []) name r
    kept None not_here none =
        λ j among has. elim (Contains-push_cases ks k j among) [ inl there ↦ none j there has | inr same ↦ not_here (subst (HasName R m name) (sym same) has) ]
    kept (Some o) not_here (among, has, last) =
        (Contains-append_left ks (k ∷ []) o among, has, λ j there has_j. elim (Contains-push_cases ks k j there) [ inl before ↦ last j before has_j | inr same ↦ absurd (not_here (subst (HasName R m name) (sym same) has_j)) ])

    by : (b : Bool) → list_any (bytes_eq name) names ≡ b → IsLastOwner R m (ks ++ k ∷ []) name new
    by true found =
        let new_is : new ≡ Some k = step ∙ ap (λ b. if b then Some k else old) found in
        let has : HasName R m name k = subst (λ ns. Contains ns name) are (Contains-from_any (λ x y. (bytes_eq-Decides x y).0) name names found) in
        let low : (j : ℕ) → Contains (ks ++ k ∷ []) j → HasName R m name j → j ≤ k =
        λ j there has_j. elim (Contains-push_cases ks k j there) [ inl before ↦ (let less = below j before in omega (arith, less)) | inr same ↦ omega (arith, same) ] in
        subst (IsLastOwner R m (ks ++ k ∷ []) name) (sym new_is) (Contains-push ks k, has, low)
    by false none =
        let new_is : new ≡ old = step ∙ ap (λ b. if b then Some k else old) none in
        subst (IsLastOwner R m (ks ++ k ∷ []) name) (sym new_is) (kept old (own none) before)

-- ---- the objects that are reached, one after the other

-- the places before one of the list
in_take : (ks : List ℕ) (i j : ℕ) → Contains (take i ks) j → (p : ℕ) × (p < i) × (p < length ks) × (get_or ks p j ≡ j)
in_take [] zero j (p, l, is) = absurd (omega (arith, l))
in_take [] (suc i) j (p, l, is) = absurd (omega (arith, l))
in_take (x ∷ ks) zero j (p, l, is) = absurd (omega (arith, l))
in_take (x ∷ ks) (suc i) j (zero, l, is) = (0, omega arith, omega arith, is)
in_take (x ∷ ks) (suc i) j (suc p, l, is) = let (q, low, within, same) = in_take ks i j (p, omega (arith, l), is) in (suc q, omega (arith, low), omega (arith, within), same)

-- they rise
pub rising_so_far : (R : Contents) (m : List ℕ) (r : Reach) (i j : ℕ) → HasReach R m r → i < length r.objects → Contains (take i r.objects) j → j < get_or r.objects i 0
rising_so_far R m r i j has l among =
    let (p, low, within, is) = in_take r.objects i j among in
    let rise = has.rising p i j low l in
    let at = same_default r.objects i j 0 l in omega (arith, rise, is, at)

pub within_dictionary : (R : Contents) (m : List ℕ) (r : Reach) (j : ℕ) → HasReach R m r → Contains r.objects j → j < length R.objects
within_dictionary R m r j has (i, l, is) = subst (λ n. n < length R.objects) is (has.within i j l)

-- the owners are those of one more object
pub owners_one_more : (R : Contents) (m : List ℕ) (r : Reach) (items : List ℕ) (i : ℕ) (o : Object) (names : List (List ℕ)) (old new : List ℕ → Option ℕ) → HasReach R m r → items ≡ r.objects → i < length items
    → StandsAt R (get_or items i 0) o → names ≡ object_type_names o → ((q : List ℕ) → new q ≡ (if list_any (bytes_eq q) names then Some (get_or items i 0) else old q))
    → OwnersAre R m (take i r.objects) old → OwnersAre R m (take (i + 1) r.objects) new
owners_one_more R m r items i o names old new has are l at names_are step before name =
    let within : i < length r.objects = subst (λ ks. i < length ks) are l in
    let k = get_or items i 0 in
    let k_is : k ≡ get_or r.objects i 0 = ap (λ ks. get_or ks i 0) are in
    subst (λ ks. IsLastOwner R m ks name (new name)) (sym (take_more r.objects i 0 within ∙ ap (λ x. take i r.objects ++ x ∷ []) (sym k_is)))
    (last_owner_more R m (take i r.objects) k names name (old name) (new name) (λ j among. subst (λ n. j < n) (sym k_is) (rising_so_far R m r i j has within among)) (names_are ∙ names_at R m k o at) (step name) (before name))

pub no_owner_first : {S : Type 0} (R : Contents) (m : List ℕ) (ks : List ℕ) (owners : HashMap (Vec ℕ) ℕ S) → owners.entries ≡ [] → OwnersAre R m (take 0 ks) (owner_of owners)
no_owner_first R m ks owners empty name = subst (λ es. IsLastOwner R m (take 0 ks) name (lookup (keyed name) es)) (sym empty) (λ k among has. absurd (omega (arith, among.1)))

-- ---- which names stand for two

pub names_stand : (R : Contents) (m : List ℕ) (q : Place) (name : List ℕ) → Contains (schema_names R m q) name → Stands R q
names_stand R m document name h = absurd (omega (arith, h.1))
names_stand R m message name h = as_message
names_stand R m nowhere name h = absurd (omega (arith, h.1))
names_stand R m (entry id) name h = by (find_entry id R.objects) refl h
  where
    by : (r : Option Object) → find_entry id R.objects ≡ r → Contains (object_names r (currency_or_none r)) name → Stands R (entry id)
    by None is h = absurd (omega (arith, h.1))
    by (Some o) is h = as_object id o is

pub twice_stands : (R : Contents) (m : List ℕ) → BreaksWhereItStands R m NameTwice
twice_stands R m p (name, among, why) = names_stand R m p name among

-- the ranks of all that is reached
abbrev all_ranks : Contents → Reach → List ℕ
all_ranks R r = r.objects ++ length R.objects ∷ []

module _ (R : Contents) (m : List ℕ) (r : Reach) (has : HasReach R m r) where
  rank_within : (k : ℕ) → Contains (all_ranks R r) k → Contains r.objects k ⊎ (length R.objects ≡ k)
  rank_within k h = Contains-push_cases r.objects (length R.objects) k h

  rank_reached : (k : ℕ) → Contains (all_ranks R r) k → Reaches R m (place_at R k)
  rank_reached k h =
      elim (rank_within k h) [
        | inl among ↦ (let (e, at) = entry_within R.objects k (within_dictionary R m r k has among) in subst (Reaches R m) (sym (ap place_of_entry at)) ((has.reached k e at).0 among))
        | inr last ↦ subst (λ n. Reaches R m (place_at R n)) last (subst (Reaches R m) (sym (last_is_message R)) itself)
      ]

  rank_low : (k : ℕ) → Contains (all_ranks R r) k → k ≤ length R.objects
  rank_low k h = elim (rank_within k h) [ inl among ↦ (let low = within_dictionary R m r k has among in omega (arith, low)) | inr last ↦ omega (arith, last) ]

  -- the rank of a reached place
  rank_there : (q : Place) → Stands R q → Reaches R m q → (k : ℕ) × Contains (all_ranks R r) k × (place_at R k ≡ q)
  rank_there q as_message reached = (length R.objects, Contains-push r.objects (length R.objects), last_is_message R)
  rank_there q (as_object id o found) reached = let (k, rank, place, among) = asked R m r id o has found reached in (k, Contains-append_left r.objects (length R.objects ∷ []) k among, place)

  places_differ : IsRepository R → (j k : ℕ) → Contains (all_ranks R r) k → j < k → place_at R j ≡ place_at R k → ⊥
  places_differ whole j k in_k less same = by (slice_get R.objects k) refl
    where
      first : (a : DictionaryEntry) × (slice_get R.objects j ≡ Some a)
      first = entry_within R.objects j (let low = rank_low k in_k in omega (arith, less, low))

      by : (b : Option DictionaryEntry) → slice_get R.objects k ≡ b → ⊥
      by None is = let places : entry first.0.id ≡ message = sym (ap place_of_entry first.1) ∙ same ∙ ap place_of_entry is in cc
      by (Some b) is =
          let places : entry first.0.id ≡ entry b.id = sym (ap place_of_entry first.1) ∙ same ∙ ap place_of_entry is in
          let ids : first.0.id ≡ b.id = cc in other_ids R j k first.0 b whole first.1 is less ids

  ranks_differ : IsRepository R → (j k : ℕ) → Contains (all_ranks R r) j → Contains (all_ranks R r) k → (j ≡ k → ⊥) → place_at R j ≡ place_at R k → ⊥
  ranks_differ whole j k in_j in_k other same =
      elim (compared j k) [
        | inl less ↦ places_differ whole j k in_k less same
        | inr rest ↦ elim rest [ inl equal ↦ other equal | inr more ↦ places_differ whole k j in_j more (sym same) ]
      ]

-- what clashes of a name
abbrev pub Clashes : (List ℕ → Option ℕ) → ℕ → List ℕ → Type 0
Clashes owner rank name = (name ≡ codes "Document") ⊎ (owner name ≢ Some rank)

module _ (R : Contents) (m : List ℕ) (r : Reach) (has : HasReach R m r) (owner : List ℕ → Option ℕ) (owners : OwnersAre R m (all_ranks R r) owner) (k : ℕ) (in_k : Contains (all_ranks R r) k)
    (names : List (List ℕ)) (names_are : names ≡ schema_names R m (place_at R k)) where
  -- a name that clashes breaks the rule
  pub clash_breaks : IsRepository R → ((name : List ℕ) × Contains names name × Clashes owner k name) → Breaks R m NameTwice (place_at R k)
  clash_breaks whole (name, among, clash) = (name, mine, elim clash [ inl document_name ↦ inl document_name | inr other ↦ inr (second (owner name) (owners name) other) ])
    where
      mine : HasName R m name k
      mine = subst (λ ns. Contains ns name) names_are among

      second : (o : Option ℕ) → IsLastOwner R m (all_ranks R r) name o → o ≢ Some k → (q : Place) × Reaches R m q × (q ≢ place_at R k) × Contains (schema_names R m q) name
      second None none other = absurd (none k in_k mine)
      second (Some j) (in_j, has_j, last) other =
          (place_at R j, rank_reached R m r has j in_j, (λ same. ranks_differ R m r has whole j k in_j in_k (λ equal. other (ap Some equal)) same), has_j)

  -- where none before breaks it and no name clashes, it is not broken
  pub no_clash_is_fine : ((j : ℕ) → Contains (all_ranks R r) j → j < k → Breaks R m NameTwice (place_at R j) → ⊥) → (((name : List ℕ) × Contains names name × Clashes owner k name) → ⊥)
      → Breaks R m NameTwice (place_at R k) → ⊥
  no_clash_is_fine before fine (name, mine, why) = elim why [ inl document_name ↦ fine (name, among, inl document_name) | inr other ↦ second other (owner name) refl (owners name) ]
    where
      among : Contains names name
      among = subst (λ ns. Contains ns name) (sym names_are) mine

      second : ((q : Place) × Reaches R m q × (q ≢ place_at R k) × Contains (schema_names R m q) name) → (o : Option ℕ) → owner name ≡ o → IsLastOwner R m (all_ranks R r) name o → ⊥
      second other None is none = none k in_k mine
      second (q, reached, differ, has_q) (Some o) is (in_o, has_o, last) =
          let (j, in_j, place) = rank_there R m r has q (names_stand R m q name has_q) reached in
          let has_j : HasName R m name j = subst (λ p. Contains (schema_names R m p) name) (sym place) has_q in
          let apart : place_at R j ≡ place_at R k → ⊥ = λ same. differ (sym place ∙ same) in
          elim (compared j k) [
            | inl less ↦ before j in_j less (name, has_j, inr (place_at R k, rank_reached R m r has k in_k, (λ same. apart (sym same)), mine))
            | inr rest ↦ elim rest [
              | inl equal ↦ apart (ap (place_at R) equal)
              | inr more ↦ fine (name, among, inr (λ mine_last. (let own : Some o ≡ Some k = sym is ∙ mine_last in let o_is : o ≡ k = cc in let low = last j in_j has_j in omega (arith, more, o_is, low))))
            ]
          ]

-- the ranks before that of an object of the reach, and before the message
pub before_object : (R : Contents) (m : List ℕ) (r : Reach) (i at : ℕ) → HasReach R m r → i < length r.objects → at ≡ get_or r.objects i at → at < length R.objects → NoneBreaks R m NameTwice (take i r.objects)
    → (j : ℕ) → Contains (all_ranks R r) j → j < at → Breaks R m NameTwice (place_at R j) → ⊥
before_object R m r i at has l is low none j in_j less broken =
    elim (Contains-push_cases r.objects (length R.objects) j in_j) [
      | inl among ↦ none j (in_front r.objects i among.0 j (rises_to R m r i at among.0 j has l is among.1 among.2 less) l among.2) broken
      | inr last ↦ omega (arith, last, less, low)
    ]

pub before_message : (R : Contents) (m : List ℕ) (r : Reach) → NoneBreaks R m NameTwice r.objects → (j : ℕ) → Contains (all_ranks R r) j → j < length R.objects → Breaks R m NameTwice (place_at R j) → ⊥
before_message R m r none j in_j less broken =
    elim (Contains-push_cases r.objects (length R.objects) j in_j) [
      | inl among ↦ none j among broken
      | inr last ↦ omega (arith, last, less)
    ]

-- and then those of the message
pub owners_of_message : (R : Contents) (m : List ℕ) (r : Reach) (items : List ℕ) (i : ℕ) (d : MessageDef) (names : List (List ℕ)) (rank : ℕ) (old new : List ℕ → Option ℕ) → HasReach R m r → items ≡ r.objects
    → length items ≤ i → slice_get R.messages r.message ≡ Some d → names ≡ d.name ∷ [] → rank ≡ length R.objects → ((q : List ℕ) → new q ≡ (if list_any (bytes_eq q) names then Some rank else old q))
    → OwnersAre R m (take i r.objects) old → OwnersAre R m (all_ranks R r) new
owners_of_message R m r items i d names rank old new has are past at names_are rank_is step before name =
    let whole : take i r.objects ≡ r.objects = take_all i r.objects (subst (λ ks. length ks ≤ i) are past) in
    let own : new name ≡ (if list_any (bytes_eq name) names then Some (length R.objects) else old name) =
    step name ∙ ap (λ n. if list_any (bytes_eq name) names then Some n else old name) rank_is in
    last_owner_more R m r.objects (length R.objects) names name (old name) (new name) (λ j among. within_dictionary R m r j has among) (names_are ∙ names_of_message R m r d has at) own
    (subst (λ ks. IsLastOwner R m ks name (old name)) whole (before name))

-- ---- an object that is asked, and the message

module _ (R : Contents) (m : List ℕ) (r : Reach) (has : HasReach R m r) (owner : List ℕ → Option ℕ) (owners : OwnersAre R m (all_ranks R r) owner) where
  asked_rank : (items : List ℕ) (i : ℕ) → items ≡ r.objects → i < length items → Contains (all_ranks R r) (get_or items i 0)
  asked_rank items i are l =
      Contains-append_left r.objects (length R.objects ∷ []) (get_or items i 0) (subst (λ ks. Contains ks (get_or items i 0)) are (i, l, same_default items i (get_or items i 0) 0 l))

  pub object_clashes : (items : List ℕ) (i : ℕ) (o : Object) (names : List (List ℕ)) → items ≡ r.objects → i < length items → StandsAt R (get_or items i 0) o → names ≡ object_type_names o
      → ((name : List ℕ) × Contains names name × Clashes owner (get_or items i 0) name) → Breaks R m NameTwice (place_at R (get_or items i 0))
  object_clashes items i o names are l at names_are clash =
      clash_breaks R m r has owner owners (get_or items i 0) (asked_rank items i are l) names (names_are ∙ names_at R m (get_or items i 0) o at) at.whole clash

  pub object_is_clear : (items : List ℕ) (i : ℕ) (o : Object) (names : List (List ℕ)) → items ≡ r.objects → i < length items → StandsAt R (get_or items i 0) o → names ≡ object_type_names o
      → NoneBreaks R m NameTwice (take i r.objects) → (((name : List ℕ) × Contains names name × Clashes owner (get_or items i 0) name) → ⊥) → Breaks R m NameTwice (place_at R (get_or items i 0)) → ⊥
  object_is_clear items i o names are l at names_are none fine =
      no_clash_is_fine R m r has owner owners (get_or items i 0) (asked_rank items i are l) names (names_are ∙ names_at R m (get_or items i 0) o at)
      (before_object R m r i (get_or items i 0) has (subst (λ ks. i < length ks) are l) (same_default items i 0 (get_or items i 0) l ∙ ap (λ ks. get_or ks i (get_or items i 0)) are) (slice_get_within R.objects (get_or items i 0) at.stored at.there) none)
      fine

  message_rank : (rank : ℕ) → rank ≡ length R.objects → Contains (all_ranks R r) rank
  message_rank rank is = subst (Contains (all_ranks R r)) (sym is) (Contains-push r.objects (length R.objects))

  message_names_at : (d : MessageDef) (names : List (List ℕ)) (rank : ℕ) → slice_get R.messages r.message ≡ Some d → names ≡ d.name ∷ [] → rank ≡ length R.objects → names ≡ schema_names R m (place_at R rank)
  message_names_at d names rank at names_are is = names_are ∙ names_of_message R m r d has at ∙ ap (λ n. schema_names R m (place_at R n)) (sym is)

  message_place : (rank : ℕ) → rank ≡ length R.objects → place_at R rank ≡ message
  message_place rank is = ap (place_at R) is ∙ last_is_message R

  pub message_clashes : (d : MessageDef) (names : List (List ℕ)) (rank : ℕ) → IsRepository R → slice_get R.messages r.message ≡ Some d → names ≡ d.name ∷ [] → rank ≡ length R.objects
      → ((name : List ℕ) × Contains names name × Clashes owner rank name) → Breaks R m NameTwice message
  message_clashes d names rank whole at names_are is clash =
      subst (Breaks R m NameTwice) (message_place rank is) (clash_breaks R m r has owner owners rank (message_rank rank is) names (message_names_at d names rank at names_are is) whole clash)

  pub message_is_clear : (d : MessageDef) (names : List (List ℕ)) (rank : ℕ) → slice_get R.messages r.message ≡ Some d → names ≡ d.name ∷ [] → rank ≡ length R.objects → NoneBreaks R m NameTwice r.objects
      → (((name : List ℕ) × Contains names name × Clashes owner rank name) → ⊥) → Breaks R m NameTwice message → ⊥
  message_is_clear d names rank at names_are is none fine broken =
      no_clash_is_fine R m r has owner owners rank (message_rank rank is) names (message_names_at d names rank at names_are is)
      (λ j in_j less. before_message R m r none j in_j (subst (λ n. j < n) is less)) fine (subst (Breaks R m NameTwice) (sym (message_place rank is)) broken)
