-- Texts in the order of their bytes.
use Rattle.std.proofs.Common.{◌≡◌, ℕ, zero, suc, ◌+◌, ◌-◌, ◌<◌, List, [], ◌∷◌, ◌++◌, length, map, drop, get_or, Some, refl, sym, ap, subst, ◌∙◌, arith}
use Rattle.std.specs.Prelude.{slice_get, Vec}
use Rattle.std.specs.List.{fold}
use Rattle.std.specs.Option.{option_map, option_to_list}
use Rattle.std.specs.declared.alloc.Global.{Global}
use Rattle.std.specs.declared.cmp.Ordering.{Ordering}
use Rattle.std.specs.declared.cmp.Ordering.TheVariants.{Less, Equal, Greater}
use Rattle.std.specs.Ordering.{nat_cmp, match_ordering}
use Rattle.std.specs.Cmp.Lexicographic.{slice_cmp}
use Rattle.std.specs.List.Sorted.{IsStrictlySortedBy}
use Rattle.std.specs.BTreeSet.{insert_key}
use Rattle.std.proofs.lemmas.Map.Keys.{Less-from_sorted}
use Rattle.std.proofs.lemmas.List.{get_or_append_left, length-append}
use Rattle.std.proofs.lemmas.Option.{slice_get-map, slice_get_within, same_Some}
use Rattle.std.proofs.Math.Seq.{get_or-append_seam}
use Rattle.facets.specs.CodeLists.{IsAboveLast}
use Rattle.repo_objects.specs.declared.objects.CodeDef.{CodeDef}
use Rattle.repo_objects.specs.declared.objects.Object.{Object}
use Rattle.repo_objects.specs.Repository.{DictionaryEntry}
use Rattle.reference_check.specs.CodeTexts.{text_of_number, text_at, text_at_entry}
use Rattle.message_model.specs.SimpleTypes.{put_text, texts_of}

-- a text in memory, and how texts stand
abbrev pub Kept : Type 0
Kept = Vec ℕ Global

abbrev pub kept_cmp : Kept → Kept → Ordering
kept_cmp x y = slice_cmp nat_cmp x.items y.items

abbrev pub texts_by : List Kept → List (List ℕ)
texts_by ks = map (λ (v : Kept). v.items) ks

pub put_same : (ks : List Kept) (k : Kept) → texts_by (insert_key kept_cmp ks k) ≡ put_text (texts_by ks) k.items
put_same [] k = refl
put_same (x ∷ ks) k = by (slice_cmp nat_cmp k.items x.items) (put_same ks k)
  where
    by : (o : Ordering) → texts_by (insert_key kept_cmp ks k) ≡ put_text (texts_by ks) k.items
        → texts_by (match_ordering o (k ∷ (x ∷ ks)) (x ∷ ks) (x ∷ insert_key kept_cmp ks k)) ≡ match_ordering o (k.items ∷ (x.items ∷ texts_by ks)) (x.items ∷ texts_by ks) (x.items ∷ put_text (texts_by ks) k.items)
    by Less h = refl
    by Equal h = refl
    by Greater h = ap (λ xs. x.items ∷ xs) h

map_same : {A : Type 0} (xs : List A) → map (λ x. x) xs ≡ xs
map_same [] = refl
map_same (x ∷ xs) = ap (λ ys. x ∷ ys) (map_same xs)

-- the one that comes next is above the last that came
pub above_last : (ks xs u : List Kept) (x : Kept) → IsStrictlySortedBy kept_cmp ks → ks ≡ map (λ y. y) xs ++ (x ∷ u) → IsAboveLast (texts_by xs) x.items
above_last ks xs u x sorted joined last h =
    let whole : ks ≡ xs ++ (x ∷ u) = joined ∙ ap (λ ys. ys ++ (x ∷ u)) (map_same xs) in
    let size : length (texts_by xs) ≡ length xs = long xs in
    let inside : length (texts_by xs) - 1 < length (texts_by xs) = slice_get_within (texts_by xs) (length (texts_by xs) - 1) last h in
    let k : ℕ = length xs - 1 in
    let at : slice_get (texts_by xs) (length xs - 1) ≡ Some last = subst (λ n. slice_get (texts_by xs) (n - 1) ≡ Some last) size h in
    let read : option_map (λ (v : Kept). v.items) (slice_get xs (length xs - 1)) ≡ Some last = sym (slice_get-map (λ (v : Kept). v.items) xs (length xs - 1)) ∙ at in
    let here : get_or ks (length xs) x ≡ x = ap (λ ys. get_or ys (length xs) x) whole ∙ get_or-append_seam xs x u x in
    let before : get_or ks (length xs - 1) x ≡ get_or xs (length xs - 1) x = ap (λ ys. get_or ys (length xs - 1) x) whole ∙ get_or_append_left xs (x ∷ u) x (length xs - 1) (omega (arith, inside, size)) in
    let long : length ks ≡ length xs + length (x ∷ u) = ap length whole ∙ length-append xs (x ∷ u) in
    let less : kept_cmp (get_or ks (length xs - 1) x) (get_or ks (length xs) x) ≡ Less =
    Less-from_sorted kept_cmp ks (length xs - 1) (length xs) x sorted (omega (arith, inside, size)) (omega (arith, long)) in
    let text : (get_or xs (length xs - 1) x).items ≡ last = last_is xs (length xs - 1) x last read in
    subst (λ t. slice_cmp nat_cmp t x.items ≡ Less) (ap (λ (v : Kept). v.items) before ∙ text) (subst (λ (v : Kept). kept_cmp (get_or ks (length xs - 1) x) v ≡ Less) here less)
  where
    long : (xs : List Kept) → length (texts_by xs) ≡ length xs
    long [] = refl
    long (y ∷ xs) = ap suc (long xs)

    last_is : (xs : List Kept) (k : ℕ) (d : Kept) (last : List ℕ) → option_map (λ (v : Kept). v.items) (slice_get xs k) ≡ Some last → (get_or xs k d).items ≡ last
    last_is [] k d last e = absurd cc
    last_is (y ∷ xs) zero d last e = same_Some y.items last e
    last_is (y ∷ xs) (suc k) d last e = last_is xs k d last e

-- ---- the texts of codes, one after another

fold_append : (f : List (List ℕ) → List ℕ → List (List ℕ)) (a : List (List ℕ)) (xs ys : List (List ℕ)) → fold f a (xs ++ ys) ≡ fold f (fold f a xs) ys
fold_append f a [] ys = refl
fold_append f a (x ∷ xs) ys = fold_append f (f a x) xs ys

texts_rest : (es : List DictionaryEntry) (o : Object) (cs : List CodeDef) (i : ℕ) → i < length cs
    → texts_of es o (drop i cs) ≡ option_to_list (text_of_number es (slice_get cs i) o) ++ texts_of es o (drop (suc i) cs)
texts_rest es o [] i lt = absurd (omega (arith, lt))
texts_rest es o (c ∷ cs) zero lt = refl
texts_rest es o (c ∷ cs) (suc i) lt = texts_rest es o cs i (omega arith)

-- one more code
pub gathered_more : (es : List DictionaryEntry) (id : List ℕ) (o : Object) (at i : ℕ) (old new goal : List (List ℕ)) → slice_get es at ≡ Some (record { id = id; object = o }) → i < length o.codes
    → fold put_text old (texts_of es o (drop i o.codes)) ≡ goal → new ≡ fold put_text old (option_to_list (text_at es at i))
    → fold put_text new (texts_of es o (drop (i + 1) o.codes)) ≡ goal
gathered_more es id o at i old new goal there lt before put =
    let next : i + 1 ≡ suc i = omega arith in
    let text : text_at es at i ≡ text_of_number es (slice_get o.codes i) o = ap (text_at_entry es i) there in
    ap (λ n. fold put_text new (texts_of es o (drop n o.codes))) next
    ∙ (ap (λ a. fold put_text a (texts_of es o (drop (suc i) o.codes))) (put ∙ ap (λ t. fold put_text old (option_to_list t)) text)
    ∙ (sym (fold_append put_text old (option_to_list (text_of_number es (slice_get o.codes i) o)) (texts_of es o (drop (suc i) o.codes)))
    ∙ (ap (fold put_text old) (sym (texts_rest es o o.codes i lt)) ∙ before)))
