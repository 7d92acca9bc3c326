-- The simple types of data types whose facets are within bounds.
use Rattle.std.proofs.Common.{◌≡◌, ℕ, ◌+◌, ◌<◌, ◌≤◌, ◌^◌, List, [], ◌∷◌, ◌++◌, length, Option, Some, None, refl, ap, subst, arith, inl, inr, lit<}
use Rattle.std.specs.List.{fold}
use Rattle.std.specs.Option.{option_to_list}
use Rattle.std.specs.Cmp.Lexicographic.{slice_cmp}
use Rattle.std.specs.Ordering.{nat_cmp, match_ordering}
use Rattle.std.specs.declared.cmp.Ordering.{Ordering}
use Rattle.std.specs.declared.cmp.Ordering.TheVariants.{Less, Equal, Greater}
use Rattle.std.proofs.lemmas.Bool.{cases_lt}
use Rattle.data_types.specs.declared.kind.Kind.TheVariants as kind
use Rattle.facets.specs.LeafChecks.{IsWithinLimits}
use Rattle.repo_objects.specs.declared.objects.CodeDef.{CodeDef}
use Rattle.repo_objects.specs.declared.objects.Object.{Object}
use Rattle.repo_objects.specs.declared.objects.Kinds.TheVariants as kinds
use Rattle.repo_objects.specs.declared.objects.ObjectKind.TheVariants as object
use Rattle.repo_objects.specs.Repository.{DictionaryEntry, Contents}
use Rattle.reference_check.specs.CodeTexts.{text_of_code}
use Rattle.reference_check.specs.Rules.{set_codes}
use Rattle.message_model.specs.FacetRules.{HasBadFacets, total_of}
use Rattle.message_model.specs.SimpleTypes.{put_text, sorted_texts, texts_of, facets_by, facets_of}

put_length : (texts : List (List ℕ)) (text : List ℕ) → length (put_text texts text) ≤ length texts + 1
put_length [] text = omega arith
put_length (other ∷ others) text = by (slice_cmp nat_cmp text other) (put_length others text)
  where
    by : (o : Ordering) → length (put_text others text) ≤ length others + 1
        → length (match_ordering o (text ∷ (other ∷ others)) (other ∷ others) (other ∷ put_text others text)) ≤ length (other ∷ others) + 1
    by Less h = omega arith
    by Equal h = omega arith
    by Greater h = omega arith

fold_length : (texts done : List (List ℕ)) → length (fold put_text done texts) ≤ length texts + length done
fold_length [] done = omega arith
fold_length (text ∷ texts) done = (let h = fold_length texts (put_text done text) in let g = put_length done text in omega (arith, h, g))

option_length : {A : Type 0} (o : Option A) → length (option_to_list o) ≤ 1
option_length None = omega arith
option_length (Some x) = omega arith

texts_length : (es : List DictionaryEntry) (o : Object) (cs : List CodeDef) → length (texts_of es o cs) ≤ length cs
texts_length es o [] = omega arith
texts_length es o (c ∷ cs) = joined (option_to_list (text_of_code es o c)) (option_length (text_of_code es o c)) (texts_length es o cs)
  where
    joined : (xs : List (List ℕ)) → length xs ≤ 1 → length (texts_of es o cs) ≤ length cs → length (xs ++ texts_of es o cs) ≤ length (c ∷ cs)
    joined [] h g = omega (arith, g)
    joined (x ∷ []) h g = omega (arith, g)
    joined (x ∷ (y ∷ xs)) h g = absurd (omega (arith, h))

-- no more codes than the set has
pub codes_length : (es : List DictionaryEntry) (o : Object) (cs : List CodeDef) → length (sorted_texts (texts_of es o cs)) ≤ length cs
codes_length es o cs = (let h = fold_length (texts_of es o cs) [] in let g = texts_length es o cs in omega (arith, h, g))

-- no more digits than 18
pub total_within : (o : Object) → set_codes o ≡ [] → (HasBadFacets o → ⊥) → total_of o.facets.total ≤ 18
total_within o none good =
    elim (cases_lt 18 (total_of o.facets.total)) [
      | inl above ↦ absurd (good (none, inr (inl (inr (inl above)))))
      | inr below ↦ below
    ]

-- ---- what holds of the simple type

pub facets_limits : (R : Contents) (o : Object) → (HasBadFacets o → ⊥) → length (set_codes o) ≤ 65536 → IsWithinLimits (facets_of R o)
facets_limits R o good few = by (set_codes o) refl
  where
    by : (cs : List CodeDef) → set_codes o ≡ cs → IsWithinLimits (facets_by R.objects o cs)
    by [] h = record { codes = tt; total = λ is. total_within o h good }
    by (c ∷ cs) h =
        let short = codes_length R.objects o (c ∷ cs) in
        let size : length (c ∷ cs) ≤ 65536 = subst (λ xs. length xs ≤ 65536) h few in
        let top : 65536 < 2 ^ 32 = lit< tt in
        record { codes = omega (arith, short, size, top); total = λ is. omega arith }

-- an amount is a number
pub amount_number : (R : Contents) (o : Object) → o.kind ≡ object.Simple kinds.Amount → (facets_of R o).kind ≡ kind.Decimal
amount_number R o h =
    let same : o ≡ record o { kind = object.Simple kinds.Amount } = ap (λ k. record o { kind = k }) h in
    ap (λ x. (facets_of R x).kind) same
