-- The facets of the types of a message that breaks no rule.
use Rattle.std.proofs.Common.{◌≡◌, ℕ, ◌<◌, ◌⊎◌, inl, inr, List, [], ◌∷◌, ◌++◌, length, Option, Some, None, MatchOption, refl, sym, ap, subst, ◌∙◌, arith}
use Rattle.std.specs.Prelude.{Contains}
use Rattle.std.specs.List.{fold}
use Rattle.std.specs.Option.{option_to_list}
use Rattle.std.specs.Str.{chars}
use Rattle.std.specs.Cmp.Lexicographic.{slice_cmp}
use Rattle.std.specs.Ordering.{nat_cmp, match_ordering}
use Rattle.std.specs.declared.cmp.Ordering.{Ordering}
use Rattle.std.specs.declared.cmp.Ordering.TheVariants.{Less, Equal, Greater}
use Rattle.pattern_match.specs.Reading.{HasPositionsWithin}
use Rattle.data_types.specs.declared.kind.Kind.TheVariants as kind
use Rattle.facets.specs.declared.simple.Simple.{Simple}
use Rattle.repo_objects.specs.declared.objects.CodeDef.{CodeDef}
use Rattle.repo_objects.specs.declared.objects.Kinds.{Kinds}
use Rattle.repo_objects.specs.declared.objects.Kinds.TheVariants as kinds
use Rattle.repo_objects.specs.declared.objects.MessageDef.{MessageDef}
use Rattle.repo_objects.specs.declared.objects.Object.{Object}
use Rattle.repo_objects.specs.declared.objects.ObjectKind.{ObjectKind}
use Rattle.repo_objects.specs.declared.objects.ObjectKind.TheVariants as object
use Rattle.repo_objects.specs.Repository.{Contents}
use Rattle.reference_check.specs.CodeTexts.{text_of_code}
use Rattle.reference_check.specs.Forms.{Form, form_to}
use Rattle.reference_check.specs.Forms as form
use Rattle.reference_check.specs.Graph.{Place, document, message, entry, nowhere, find_entry, find_message, simple_form, object_form, entry_form, message_form, document_form}
use Rattle.reference_check.specs.Reach.{Reaches, itself}
use Rattle.reference_check.specs.Rules.{HasPatterns, set_codes, NoMessage, BadCodes, LeftOutKind}
use Rattle.message_model.specs.SimpleTypes.{kind_of, base_of, pattern_of, put_text, sorted_texts, texts_of, faceted_type, facets_by, facets_of}
use Rattle.message_model.specs.Ready.{IsReady, IsBadPattern, OnObjects, BadFacets, BadPattern}
use Rattle.message_model.specs.Compiled.{types}
use Rattle.message_model.proofs.Compilable.{object_there, at_contains}
use Rattle.message_model.proofs.SoundFacets.{total_within}
use Rattle.xsd_model.specs.StepsOf.{IsSoundSimple}
use Rattle.xsd_model.specs.SchemaOf.{HasSoundFacets}
use Rattle.xsd_model.proofs.Decided.{stable, positions_decided}

put_some : (texts : List (List ℕ)) (text : List ℕ) → 0 < length (put_text texts text)
put_some [] text = omega arith
put_some (other ∷ others) text = by (slice_cmp nat_cmp text other)
  where
    by : (o : Ordering) → 0 < length (match_ordering o (text ∷ (other ∷ others)) (other ∷ others) (other ∷ put_text others text))
    by Less = omega arith
    by Equal = omega arith
    by Greater = omega arith

fold_some : (texts done : List (List ℕ)) → 0 < length done → 0 < length (fold put_text done texts)
fold_some [] done some = some
fold_some (text ∷ texts) done some = fold_some texts (put_text done text) (put_some done text)

no_envelope : (k : Kinds) → kind_of k ≡ kind.Envelope → ⊥
no_envelope kinds.Text e = cc
no_envelope _ e = cc

abbrev HasSmallPattern : Option (List ℕ) → Type 0
HasSmallPattern pattern = MatchOption pattern (Unit {0}) (λ text. HasPositionsWithin (chars text) 65536)

-- ---- where targets have other names

pub facets_from : {P : Type 0} (h : ℕ → P) (F : Form ℕ Simple) → HasSoundFacets (form_to h (λ x. x) F) → HasSoundFacets F
facets_from h (form.Sequence slots) sound = tt
facets_from h (form.Choice slots) sound = tt
facets_from h (form.Simple simple) sound = sound
facets_from h (form.Money code number) sound = sound
facets_from h form.Envelope sound = tt
facets_from h form.LeftOut sound = sound
facets_from h form.Missing sound = sound

module _ (R : Contents) (m : List ℕ) (ready : IsReady R m) where
  -- ---- of an object

  module _ (id : List ℕ) (o : Object) (reach : Reaches R m (entry id)) (found : find_entry id R.objects ≡ Some o) where
    has_text : (c : CodeDef) → Contains (set_codes o) c → text_of_code R.objects o c ≡ None → ⊥
    has_text c inside none = ready (OnObjects BadCodes) (entry id) reach (id, o, refl, found, inl (c, inside, none))

    some_texts : (c : CodeDef) (cs : List CodeDef) → set_codes o ≡ c ∷ cs → 0 < length (sorted_texts (texts_of R.objects o (c ∷ cs)))
    some_texts c cs is = by (text_of_code R.objects o c) refl
      where
        inside : Contains (set_codes o) c
        inside = subst (λ (xs : List CodeDef). Contains xs c) (sym is) (at_contains (c ∷ cs) c 0 refl)

        by : (t : Option (List ℕ)) → text_of_code R.objects o c ≡ t → 0 < length (sorted_texts (texts_of R.objects o (c ∷ cs)))
        by None e = absurd (has_text c inside e)
        by (Some t) e = subst (λ x. 0 < length (sorted_texts (option_to_list x ++ texts_of R.objects o cs))) (sym e) (fold_some (texts_of R.objects o cs) (put_text [] t) (omega arith))

    small_pattern : set_codes o ≡ [] → HasPatterns o.kind → (pattern : Option (List ℕ)) → o.facets.pattern ≡ pattern → HasSmallPattern pattern
    small_pattern none has None at = tt
    small_pattern none has (Some text) at =
        stable (positions_decided (chars text)) (λ bad. ready BadPattern (entry id) reach (id, o, refl, found, (none, has, subst (λ x. IsBadPattern x) (sym at) bad)))

    small_if_any : (k : Kinds) → o.kind ≡ object.Simple k → set_codes o ≡ [] → HasSmallPattern (pattern_of (object.Simple k) o.facets.pattern)
    small_if_any kinds.Amount is none = tt
    small_if_any kinds.Rate is none = tt
    small_if_any kinds.Quantity is none = tt
    small_if_any kinds.Indicator is none = tt
    small_if_any kinds.Binary is none = tt
    small_if_any _ is none = small_pattern none (subst (λ x. HasPatterns x) (sym is) tt) o.facets.pattern refl

    faceted_sound : (k : Kinds) → o.kind ≡ object.Simple k → set_codes o ≡ [] → IsSoundSimple (faceted_type o)
    faceted_sound k is none = record {
      no_envelope = λ e. no_envelope k (ap base_of (sym is) ∙ e);
      total = λ e. total_within o none (λ bad. ready BadFacets (entry id) reach (id, o, refl, found, bad));
      codes = tt;
      pattern = subst (λ x. HasSmallPattern (pattern_of x o.facets.pattern)) (sym is) (small_if_any k is none);
    }

    simple_sound : (k : Kinds) → o.kind ≡ object.Simple k → IsSoundSimple (facets_of R o)
    simple_sound k is = by (set_codes o) refl
      where
        by : (cs : List CodeDef) → set_codes o ≡ cs → IsSoundSimple (facets_by R.objects o cs)
        by [] h = faceted_sound k is h
        by (c ∷ cs) h = record { no_envelope = λ e. absurd cc; total = λ e. omega arith; codes = some_texts c cs h; pattern = tt }

    amount_facets : (c : Option (List ℕ)) → o.kind ≡ object.Simple kinds.Amount → HasSoundFacets (form_to (λ q. q) (facets_of R) (simple_form R o kinds.Amount c))
    amount_facets None is = simple_sound kinds.Amount is
    amount_facets (Some c) is = simple_sound kinds.Amount is

    simple_facets : (k : Kinds) → o.kind ≡ object.Simple k → HasSoundFacets (form_to (λ q. q) (facets_of R) (simple_form R o k o.currency))
    simple_facets kinds.Amount is = amount_facets o.currency is
    simple_facets k is = simple_sound k is

    object_facets : (k : ObjectKind) → o.kind ≡ k → HasSoundFacets (form_to (λ q. q) (facets_of R) (object_form R o k))
    object_facets (object.Simple k) is = simple_facets k is
    object_facets object.Component is = tt
    object_facets object.Choice is = tt
    object_facets object.External is = tt
    object_facets object.Other is = absurd (ready (OnObjects LeftOutKind) (entry id) reach (id, o, refl, found, inl is))

  -- ---- at each place

  pub message_found : (d : MessageDef) × (find_message m R.messages ≡ Some d)
  message_found = by (find_message m R.messages) refl
    where
      by : (d : Option MessageDef) → find_message m R.messages ≡ d → (d : MessageDef) × (find_message m R.messages ≡ Some d)
      by None e = absurd (ready (OnObjects NoMessage) message itself (refl, e))
      by (Some d) e = (d, e)

  nowhere_reached : Reaches R m nowhere → ⊥
  nowhere_reached h = elim h [ ]

  -- the facets of a type are sound
  pub facets_at : (p : Place) → (p ≡ document) ⊎ Reaches R m p → HasSoundFacets (types R m p)
  facets_at document at = subst (λ d. HasSoundFacets (form_to (λ q. q) (facets_of R) (document_form d))) (sym message_found.1) tt
  facets_at message at = subst (λ d. HasSoundFacets (form_to (λ q. q) (facets_of R) (message_form d))) (sym message_found.1) tt
  facets_at (entry id) (inl e) = absurd cc
  facets_at (entry id) (inr reach) =
      let there = object_there R m ready id reach in
      subst (λ o. HasSoundFacets (form_to (λ q. q) (facets_of R) (entry_form R o))) (sym there.1) (object_facets id there.0 reach there.1 there.0.kind refl)
  facets_at nowhere (inl e) = absurd cc
  facets_at nowhere (inr reach) = absurd (nowhere_reached reach)
