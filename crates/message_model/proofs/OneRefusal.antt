-- A message breaks no rule, or is refused in one way.
use Rattle.std.proofs.Common.{◌≡◌, ℕ, zero, suc, ◌<◌, ◌≤◌, List, [], length, Some, None, refl, sym, ap, subst, ◌∙◌, arith, inl, inr}
use Rattle.std.specs.Prelude.{Contains}
use Rattle.std.proofs.lemmas.Bool.{cases_lt}
use Rattle.std.proofs.lemmas.Option.{slice_get_within}
use Rattle.repo_objects.specs.declared.objects.ElementDef.{ElementDef}
use Rattle.repo_objects.specs.Repository.{Contents}
use Rattle.reference_check.specs.Graph.{Place, document, message, entry, nowhere, find_entry}
use Rattle.reference_check.specs.Reach.{Reaches, rank_of, elements_or_none, currency_or_none}
use Rattle.reference_check.specs.Rules.{Rule, Breaks, NoMessage, TwoMessages, Dangling}
use Rattle.reference_check.proofs.Lookups.{IsFound, find_place}
use Rattle.reference_check.proofs.RuleNumbers.{one_rule}
use Rattle.message_model.specs.Laws.{OneRefusal, ReadyIsNotRefused, ReadyOrRefused}
use Rattle.message_model.specs.Ready.{MessageRule, OnObjects, BadFacets, BadPattern, message_rule_number, BreaksMessageRule, IsRefused}
use Rattle.message_model.proofs.Compilable.{referrer}
use Rattle.message_model.proofs.Places.{found_once}
use Rattle.message_model.proofs.Refused.{part}

-- ---- rules by their numbers

not_between : (r : Rule) (n : ℕ) → message_rule_number (OnObjects r) ≡ n → 11 < n → n < 14 → ⊥
not_between r n is low high = elim (part r) [
  | inl below ↦ omega (arith, is, low, below)
  | inr above ↦ omega (arith, is, high, above)
]

one_message_rule : (r s : MessageRule) → message_rule_number r ≡ message_rule_number s → r ≡ s
one_message_rule (OnObjects r) (OnObjects s) same = ap OnObjects (one_rule r s same)
one_message_rule (OnObjects r) BadFacets same = absurd (not_between r 12 same (omega arith) (omega arith))
one_message_rule (OnObjects r) BadPattern same = absurd (not_between r 13 same (omega arith) (omega arith))
one_message_rule BadFacets (OnObjects s) same = absurd (not_between s 12 (sym same) (omega arith) (omega arith))
one_message_rule BadFacets BadFacets same = refl
one_message_rule BadFacets BadPattern same = absurd (omega (arith, same))
one_message_rule BadPattern (OnObjects s) same = absurd (not_between s 13 (sym same) (omega arith) (omega arith))
one_message_rule BadPattern BadFacets same = absurd (omega (arith, same))
one_message_rule BadPattern BadPattern same = refl

module _ (R : Contents) (m : List ℕ) where
  -- ---- what is refused stands in the repository

  none_in : (e : ElementDef) → Contains [] e → ⊥
  none_in e (k, lt, is) = omega (arith, lt)

  absent_refers : (id : List ℕ) (none : find_entry id R.objects ≡ None) → Breaks R m Dangling (entry id) → ⊥
  absent_refers id none (inl (e, other, inside, named, h)) = none_in e (subst (λ o. Contains (elements_or_none o) e) none inside)
  absent_refers id none (inr (c, is, h)) = (let nothing : None ≡ Some c = ap currency_or_none (sym none) ∙ is in cc)

  absent_low : (id : List ℕ) (none : find_entry id R.objects ≡ None) (r : MessageRule) → message_rule_number r ≤ 3 → BreaksMessageRule R m r (entry id) → ⊥
  absent_low id none (OnObjects NoMessage) low (at, h) = cc
  absent_low id none (OnObjects TwoMessages) low (at, h) = cc
  absent_low id none (OnObjects Dangling) low h = absent_refers id none h
  absent_low id none r low h = omega (arith, low)

  not_absent : (r : MessageRule) (id : List ℕ) → IsRefused R m r (entry id) → find_entry id R.objects ≡ None → ⊥
  not_absent r id f none =
      elim (cases_lt 3 (message_rule_number r)) [
        | inl above ↦ (let q = referrer R m f.reached id refl none in f.lowest (OnObjects Dangling) q.0 above q.1 q.2)
        | inr low ↦ absent_low id none r low f.broken
      ]

  found : (r : MessageRule) (id : List ℕ) → IsRefused R m r (entry id) → IsFound id R.objects
  found r id f = elim (find_place id R.objects) [ inl a ↦ absurd (not_absent r id f a.none) | inr x ↦ x ]

  below_message : (r : MessageRule) (id : List ℕ) → IsRefused R m r (entry id) → rank_of R (entry id) < length R.objects
  below_message r id f =
      let x = found r id f in
      let rank : rank_of R (entry id) ≡ x.place = x.rank in
      let within = slice_get_within R.objects x.place x.there x.at in
      omega (arith, rank, within)

  -- ---- one place

  same_rank : (r : MessageRule) (p q : Place) → IsRefused R m r p → IsRefused R m r q → rank_of R p ≡ rank_of R q
  same_rank r p q f g =
      elim (cases_lt (rank_of R p) (rank_of R q)) [
        | inl below ↦ absurd (g.first p below f.reached f.broken)
        | inr past ↦ elim (cases_lt (rank_of R q) (rank_of R p)) [
          | inl below ↦ absurd (f.first q below g.reached g.broken)
          | inr other ↦ omega arith
        ]
      ]

  one_place : (r : MessageRule) (p q : Place) → IsRefused R m r p → IsRefused R m r q → rank_of R p ≡ rank_of R q → p ≡ q
  one_place r document q f g same = absurd (let none = f.reached in elim none [ ])
  one_place r nowhere q f g same = absurd (let none = f.reached in elim none [ ])
  one_place r p document f g same = absurd (let none = g.reached in elim none [ ])
  one_place r p nowhere f g same = absurd (let none = g.reached in elim none [ ])
  one_place r message message f g same = refl
  one_place r message (entry id) f g same = (let low = below_message r id g in absurd (omega (arith, same, low)))
  one_place r (entry id) message f g same = (let low = below_message r id f in absurd (omega (arith, same, low)))
  one_place r (entry id) (entry other) f g same =
      let x = found r id f in
      let y = found r other g in
      let here : rank_of R (entry id) ≡ x.place = x.rank in
      let there : rank_of R (entry other) ≡ y.place = y.rank in
      let places : x.place ≡ y.place = omega (arith, here, there, same) in
      ap entry (found_once R.objects id other x y places)

  same_rule : (r s : MessageRule) (p q : Place) → IsRefused R m r p → IsRefused R m s q → r ≡ s
  same_rule r s p q f g =
      elim (cases_lt (message_rule_number r) (message_rule_number s)) [
        | inl below ↦ absurd (g.lowest r p below f.reached f.broken)
        | inr past ↦ elim (cases_lt (message_rule_number s) (message_rule_number r)) [
          | inl below ↦ absurd (f.lowest s q below g.reached g.broken)
          | inr other ↦ (let numbers : message_rule_number r ≡ message_rule_number s = omega arith in one_message_rule r s numbers)
        ]
      ]

pub one_refusal : OneRefusal
one_refusal R m r s p q f g =
    let rules : r ≡ s = same_rule R m r s p q f g in
    let also : IsRefused R m r q = subst (λ x. IsRefused R m x q) (sym rules) g in
    (rules, one_place R m r p q f also (same_rank R m r p q f also))

pub ready_is_not_refused : ReadyIsNotRefused
ready_is_not_refused R m r p ready f = ready r p f.reached f.broken

-- ---- one of both

module _ (R : Contents) (m : List ℕ) (lacks : (r : MessageRule) (p : Place) → IsRefused R m r p → ⊥) where
  -- where no lower rule is broken, no place breaks this one
  no_place : (r : MessageRule) → ((s : MessageRule) (q : Place) → message_rule_number s < message_rule_number r → Reaches R m q → BreaksMessageRule R m s q → ⊥)
      → (n : ℕ) (p : Place) → rank_of R p < n → Reaches R m p → BreaksMessageRule R m r p → ⊥
  no_place r lower zero p lt reach broken = omega (arith, lt)
  no_place r lower (suc n) p lt reach broken =
      lacks r p (record { reached = reach; broken = broken; lowest = lower; first = λ q less at breaks. no_place r lower n q (omega (arith, lt, less)) at breaks })

  no_rule : (n : ℕ) (r : MessageRule) (p : Place) → message_rule_number r < n → Reaches R m p → BreaksMessageRule R m r p → ⊥
  no_rule zero r p lt reach broken = omega (arith, lt)
  no_rule (suc n) r p lt reach broken =
      no_place r (λ s q less at breaks. no_rule n s q (omega (arith, lt, less)) at breaks) (suc (rank_of R p)) p (omega arith) reach broken

pub ready_or_refused : ReadyOrRefused
ready_or_refused R m lacks = lacks (inl (λ r p reach broken. no_rule R m (λ s q f. lacks (inr (s, q, f))) (suc (message_rule_number r)) r p (omega arith) reach broken))
