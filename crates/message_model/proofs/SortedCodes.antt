-- The codes of each type of a message stand in order, each once.
use Rattle.std.proofs.Common.{◌≡◌, ℕ, List, [], ◌∷◌, Option, Some, None, refl, ap, subst, ◌∙◌}
use Rattle.std.specs.List.{AllByRecursion, fold}
use Rattle.std.specs.List.Sorted.{IsStrictlySortedBy}
use Rattle.std.specs.Cmp.Lexicographic.{slice_cmp}
use Rattle.std.specs.Ordering.{nat_cmp, match_ordering, ordering_reverse}
use Rattle.std.specs.declared.cmp.Ordering.{Ordering}
use Rattle.std.specs.declared.cmp.Ordering.TheVariants.{Less, Equal, Greater}
use Rattle.std.proofs.lemmas.Cmp.{nat_list_cmp_total}
use Rattle.std.proofs.lemmas.Option.{same_Some}
use Rattle.facets.specs.CodeLists.{AreSorted, ComesBefore}
use Rattle.facets.specs.LeafUnder.{HasSortedCodes}
use Rattle.facets.specs.declared.simple.Simple.{Simple}
use Rattle.repo_objects.specs.declared.objects.CodeDef.{CodeDef}
use Rattle.repo_objects.specs.declared.objects.MessageDef.{MessageDef}
use Rattle.repo_objects.specs.declared.objects.Object.{Object}
use Rattle.repo_objects.specs.declared.objects.Kinds.{Kinds}
use Rattle.repo_objects.specs.declared.objects.Kinds.TheVariants as kinds
use Rattle.repo_objects.specs.declared.objects.ObjectKind.{ObjectKind}
use Rattle.repo_objects.specs.declared.objects.ObjectKind.TheVariants as object
use Rattle.repo_objects.specs.Repository.{Contents}
use Rattle.reference_check.specs.Forms.{Form, form_to, text_type}
use Rattle.reference_check.specs.Graph.{Place, document, message, entry, nowhere, simple_form, object_form, entry_form, message_form, document_form, find_entry, find_message}
use Rattle.reference_check.specs.Rules.{set_codes}
use Rattle.message_model.specs.SimpleTypes.{put_text, texts_of, facets_by, facets_of}
use Rattle.message_model.specs.Compiled.{types}

-- ---- a text put at its place

before_all : (text other : List ℕ) (others : List (List ℕ)) → ComesBefore text other → AllByRecursion (ComesBefore other) others → AllByRecursion (ComesBefore text) others
before_all text other [] less all = tt
before_all text other (next ∷ others) less all = (nat_list_cmp_total.trans text other next less all.0, before_all text other others less all.1)

put_behind : (first text : List ℕ) (texts : List (List ℕ)) → ComesBefore first text → AllByRecursion (ComesBefore first) texts → AllByRecursion (ComesBefore first) (put_text texts text)
put_behind first text [] less all = (less, tt)
put_behind first text (other ∷ others) less all = by (slice_cmp nat_cmp text other) (put_behind first text others less all.1)
  where
    by : (o : Ordering) → AllByRecursion (ComesBefore first) (put_text others text)
        → AllByRecursion (ComesBefore first) (match_ordering o (text ∷ (other ∷ others)) (other ∷ others) (other ∷ put_text others text))
    by Less rest = (less, all)
    by Equal rest = all
    by Greater rest = (all.0, rest)

put_sorted : (texts : List (List ℕ)) (text : List ℕ) → AreSorted texts → AreSorted (put_text texts text)
unfolding IsStrictlySortedBy
put_sorted [] text sorted = (tt, tt)
put_sorted (other ∷ others) text sorted = by (slice_cmp nat_cmp text other) refl (put_sorted others text sorted.1)
  where
    by : (o : Ordering) → slice_cmp nat_cmp text other ≡ o → AreSorted (put_text others text)
        → AreSorted (match_ordering o (text ∷ (other ∷ others)) (other ∷ others) (other ∷ put_text others text))
    by Less is rest = ((is, before_all text other others is sorted.0), sorted)
    by Equal is rest = sorted
    by Greater is rest = (put_behind other text others (nat_list_cmp_total.antisymm other text ∙ ap ordering_reverse is) sorted.0, rest)

fold_sorted : (texts done : List (List ℕ)) → AreSorted done → AreSorted (fold put_text done texts)
fold_sorted [] done sorted = sorted
fold_sorted (text ∷ texts) done sorted = fold_sorted texts (put_text done text) (put_sorted done text sorted)

none_sorted : AreSorted []
unfolding IsStrictlySortedBy
none_sorted = tt

-- ---- the simple types

facets_sorted : (R : Contents) (o : Object) → HasSortedCodes (facets_of R o)
facets_sorted R o = by (set_codes o)
  where
    by : (cs : List CodeDef) → HasSortedCodes (facets_by R.objects o cs)
    by [] = tt
    by (c ∷ cs) = fold_sorted (texts_of R.objects o (c ∷ cs)) [] none_sorted

module _ (R : Contents) where
  -- the codes of a text of this form are sorted
  abbrev IsSorted : Form Place Simple → Type 0
  IsSorted f = (simple : Simple) → text_type f ≡ Some simple → HasSortedCodes simple

  same_sorted : (o : Object) (simple : Simple) → Some (facets_of R o) ≡ Some simple → HasSortedCodes simple
  same_sorted o simple is = subst HasSortedCodes (same_Some (facets_of R o) simple is) (facets_sorted R o)

  simple_sorted : (o : Object) (k : Kinds) (c : Option (List ℕ)) → IsSorted (form_to (λ q. q) (facets_of R) (simple_form R o k c))
  simple_sorted o kinds.Amount None simple is = same_sorted o simple is
  simple_sorted o kinds.Amount (Some c) simple is = same_sorted o simple is
  simple_sorted o _ c simple is = same_sorted o simple is

  object_sorted : (o : Object) (k : ObjectKind) → IsSorted (form_to (λ q. q) (facets_of R) (object_form R o k))
  object_sorted o (object.Simple k) simple is = simple_sorted o k o.currency simple is
  object_sorted o object.Component simple is = absurd cc
  object_sorted o object.Choice simple is = absurd cc
  object_sorted o object.External simple is = absurd cc
  object_sorted o object.Other simple is = absurd cc

  entry_sorted : (o : Option Object) → IsSorted (form_to (λ q. q) (facets_of R) (entry_form R o))
  entry_sorted None simple is = absurd cc
  entry_sorted (Some o) simple is = object_sorted o o.kind simple is

  message_sorted : (d : Option MessageDef) → IsSorted (form_to (λ q. q) (facets_of R) (message_form d))
  message_sorted None simple is = absurd cc
  message_sorted (Some d) simple is = absurd cc

  document_sorted : (d : Option MessageDef) → IsSorted (form_to (λ q. q) (facets_of R) (document_form d))
  document_sorted None simple is = absurd cc
  document_sorted (Some d) simple is = absurd cc

  pub types_sorted : (m : List ℕ) (p : Place) → IsSorted (types R m p)
  types_sorted m document simple is = document_sorted (find_message m R.messages) simple is
  types_sorted m message simple is = message_sorted (find_message m R.messages) simple is
  types_sorted m (entry id) simple is = entry_sorted (find_entry id R.objects) simple is
  types_sorted m nowhere simple is = absurd cc
