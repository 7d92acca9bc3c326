-- The entries of a repository one by one, as codes are joined to them.
use Rattle.std.proofs.Common.{◌≡◌, ℕ, zero, suc, ◌+◌, ◌<◌, Bool, true, false, ◌&&◌, ◌||◌, not, List, [], ◌∷◌, ◌++◌, map, length, take, drop, slice_get, Option, Some, None, All, refl, sym, ap, subst, ◌∙◌, append_assoc, arith}
use Rattle.std.specs.Bool.{if◌then◌else◌}
use Rattle.std.specs.List.{list_any}
use Rattle.std.specs.Str.{bytes_eq}
use Rattle.std.proofs.lemmas.Cmp.{nat_list_eq_equiv}
use Rattle.std.proofs.lemmas.List.{map-append}
use Rattle.std.proofs.lemmas.List.Elements.{All-nil, All-cons, All-head, All-tail, All-map}
use Rattle.std.proofs.lemmas.List.Folds.{list_any-append}
use Rattle.std.proofs.lemmas.Slice.Eq.{bytes_eq-Decides}
use Rattle.lexical_core.specs.Characters.{IsXmlText}
use Rattle.lexical_core.proofs.Tests.{or_false}
use Rattle.repo_objects.specs.declared.objects.CodeDef.{CodeDef}
use Rattle.repo_objects.specs.declared.objects.MessageDef.{MessageDef}
use Rattle.repo_objects.specs.declared.objects.Object.{Object}
use Rattle.repo_objects.specs.Objects.{HasCodeTexts}
use Rattle.repo_objects.specs.Repository.{DictionaryEntry, Contents, entry_with_codes, with_codes}
use Rattle.code_sets.specs.declared.record.CodeRecord.{CodeRecord}
use Rattle.code_sets.specs.Codes.{JoinFault, JoinsAll, code_of, codes_for, has_own_codes, is_code_set, is_none_yet, is_taken, joined_contents, joined_entry, once}
use Rattle.code_sets.specs.CodesErrors.{AreCodes}
use Rattle.code_sets.specs.inner.Given.{NamesOwn, given_entry, is_set_named, with_own_name, with_text}

-- ---- an item of a list

-- the list before an item and behind it
pub item_at : {X : Type 0} (xs : List X) (i : ℕ) → i < length xs → (x : X) × (take (i + 1) xs ≡ take i xs ++ x ∷ []) × (drop i xs ≡ x ∷ drop (i + 1) xs) × (slice_get xs i ≡ Some x)
item_at [] i below = absurd (omega (arith, below))
item_at (x ∷ xs) zero below = (x, refl, refl, refl)
item_at {X} (x ∷ xs) (suc i) below =
    let later = item_at xs i (omega arith) in
    let next : suc i + 1 ≡ suc (i + 1) = omega arith in
    (later.0, ap (λ n. take n (x ∷ xs)) next ∙ ap (λ l. x ∷ l) later.1, later.2 ∙ ap (λ n. later.0 ∷ drop n (x ∷ xs)) (sym next), later.3)

split_at : {X : Type 0} (xs : List X) (i : ℕ) → take i xs ++ drop i xs ≡ xs
split_at [] zero = refl
split_at [] (suc i) = refl
split_at (x ∷ xs) zero = refl
split_at (x ∷ xs) (suc i) = ap (λ l. x ∷ l) (split_at xs i)

any_same : {X : Type 0} (p q : X → Bool) (xs : List X) → ((x : X) → p x ≡ q x) → list_any p xs ≡ list_any q xs
any_same p q [] h = refl
any_same p q (x ∷ xs) h = λ i. h x i || any_same p q xs h i

map_same : {X Y : Type 0} (f g : X → Y) (xs : List X) → ((x : X) → f x ≡ g x) → map f xs ≡ map g xs
map_same f g [] h = refl
map_same f g (x ∷ xs) h = λ i. h x i ∷ map_same f g xs h i

-- ---- the names of code sets with codes of their own

or_both : (a b : Bool) → (b ≡ true → a ≡ true) → a ≡ (a || b)
or_both true b h = refl
or_both false true h = h refl
or_both false false h = refl

any_with : (q n : List ℕ) (names : List (List ℕ)) → list_any (bytes_eq q) (with_text names n) ≡ (list_any (bytes_eq q) names || bytes_eq n q)
any_with q n names = case (list_any (bytes_eq n) names) refl
  where
    case : (b : Bool) → list_any (bytes_eq n) names ≡ b → list_any (bytes_eq q) (if b then names else names ++ n ∷ []) ≡ (list_any (bytes_eq q) names || bytes_eq n q)
    case true e = or_both (list_any (bytes_eq q) names) (bytes_eq n q) (λ s. subst (λ m. list_any (bytes_eq m) names ≡ true) ((bytes_eq-Decides n q).0 s) e)
    case false e =
        list_any-append (bytes_eq q) names (n ∷ []) ∙ ap (λ b. list_any (bytes_eq q) names || b) (or_false (bytes_eq q n) ∙ nat_list_eq_equiv.symm q n)

-- the names of the entries with one more
pub own_more : (names : List (List ℕ)) (es : List DictionaryEntry) (e : DictionaryEntry) → NamesOwn names es → NamesOwn (with_own_name names e) (es ++ e ∷ [])
own_more names es e h q =
    case (is_code_set e.object.kind) (not (is_none_yet e.object.codes))
    ∙ ap (λ b. b || (has_own_codes q e || false)) (h q) ∙ sym (list_any-append (has_own_codes q) es (e ∷ []))
  where
    case : (a b : Bool) → list_any (bytes_eq q) (if a && b then with_text names e.object.name else names) ≡ (list_any (bytes_eq q) names || ((a && b && bytes_eq e.object.name q) || false))
    case true true = any_with q e.object.name names ∙ ap (λ b. list_any (bytes_eq q) names || b) (sym (or_false (bytes_eq e.object.name q)))
    case true false = sym (or_false (list_any (bytes_eq q) names))
    case false b = sym (or_false (list_any (bytes_eq q) names))

-- ---- the first record that names one

named_taken : (names : List (List ℕ)) (entries : List DictionaryEntry) (rs : List CodeRecord) → NamesOwn names entries → list_any (is_set_named names) rs ≡ list_any (is_taken entries) rs
named_taken names entries rs h = any_same (is_set_named names) (is_taken entries) rs (λ r. h r.set)

pub joins_all : (names : List (List ℕ)) (entries : List DictionaryEntry) (rs : List CodeRecord) → NamesOwn names entries → list_any (is_set_named names) rs ≡ false → JoinsAll rs entries
joins_all names entries rs h none = ap not (sym (named_taken names entries rs h) ∙ none)

pub named_first : (names : List (List ℕ)) (entries : List DictionaryEntry) (rs : List CodeRecord) (i : ℕ) (r : CodeRecord) → NamesOwn names entries → list_any (is_set_named names) (take i rs) ≡ false
    → i < length rs → slice_get rs i ≡ Some r → is_set_named names r ≡ true → JoinFault rs entries r.number
named_first names entries rs i r h none below at named =
    let item = item_at rs i below in
    let same : item.0 ≡ r = some_same item.0 r (sym item.3 ∙ at) in
    record {
      before = take i rs;
      first = r;
      after = drop (i + 1) rs;
      split = sym (split_at rs i) ∙ ap (λ l. take i rs ++ l) (item.2 ∙ ap (λ x. x ∷ drop (i + 1) rs) same);
      none = joins_all names entries (take i rs) h none;
      taken = sym (h r.set) ∙ named;
      number_is = refl;
    }
  where
    some_same : (x y : CodeRecord) → Some x ≡ Some y → x ≡ y
    some_same x y e = cc

pub none_named : (names : List (List ℕ)) (rs : List CodeRecord) (r : CodeRecord) → list_any (is_set_named names) rs ≡ false → is_set_named names r ≡ false → list_any (is_set_named names) (rs ++ r ∷ []) ≡ false
none_named names rs r h k = list_any-append (is_set_named names) rs (r ∷ []) ∙ (λ i. h i || (k i || false))

-- ---- the entries with their codes

put_at : (before after : List DictionaryEntry) (e : DictionaryEntry) (codes : List CodeDef) → with_codes (before ++ e ∷ after) (length before) codes ≡ before ++ (entry_with_codes codes e ∷ after)
put_at [] after e codes = refl
put_at (x ∷ before) after e codes = ap (λ l. x ∷ l) (put_at before after e codes)

found_at : (before after : List DictionaryEntry) (e : DictionaryEntry) → slice_get (before ++ e ∷ after) (length before) ≡ Some e
found_at [] after e = refl
found_at (x ∷ before) after e = found_at before after e

module _ (kept : List ℕ → List (List ℕ)) (objects before after : List DictionaryEntry) (e : DictionaryEntry) (at : ℕ) (split : objects ≡ before ++ e ∷ after) (place : at ≡ length before) where
  pub entry_there : slice_get objects at ≡ Some e
  entry_there = (λ i. slice_get (split i) (place i)) ∙ found_at before after e

  -- it takes the codes of its name
  pub takes_given : (id : List ℕ) (o : Object) (name : List ℕ) (codes : List CodeDef) → (let there : DictionaryEntry = record { id = id; object = o } in Some there ≡ slice_get objects at)
      → (is_code_set o.kind && is_none_yet o.codes) ≡ true → name ≡ o.name → codes ≡ map code_of (kept name) → with_codes objects at codes ≡ before ++ (given_entry kept e ∷ after)
  takes_given id o name codes there takes named is =
      let same : o ≡ e.object = one_object id o (there ∙ entry_there) in
      (λ i. with_codes (split i) (place i) (is i)) ∙ put_at before after e (map code_of (kept name))
      ∙ ap (λ n. before ++ (entry_with_codes (map code_of (kept n)) e ∷ after)) (named ∙ ap (λ (o : Object). o.name) same)
      ∙ ap (λ b. before ++ ((if b then entry_with_codes (map code_of (kept e.object.name)) e else e) ∷ after)) (sym takes ∙ ap (λ (o : Object). is_code_set o.kind && is_none_yet o.codes) same)
    where
      one_object : (id : List ℕ) (o : Object) → (let there : DictionaryEntry = record { id = id; object = o } in Some there ≡ Some e) → o ≡ e.object
      one_object id o h = ap (λ (r : Option DictionaryEntry). elim r [ None ↦ o | Some x ↦ x.object ]) h

-- the entries before the place with their codes, the others as they were
abbrev pub joined_front : (DictionaryEntry → DictionaryEntry) → List DictionaryEntry → ℕ → List DictionaryEntry
joined_front f objects at = map f (take at objects) ++ drop at objects

pub front_more : (f : DictionaryEntry → DictionaryEntry) (objects : List DictionaryEntry) (at : ℕ) (messages : List MessageDef) (old new : Contents) → at < length objects
    → old ≡ record { objects = joined_front f objects at; messages = messages }
    → ((before after : List DictionaryEntry) (e : DictionaryEntry) → old.objects ≡ before ++ e ∷ after → at ≡ length before → new ≡ record old { objects = before ++ (f e ∷ after) })
    → new ≡ record { objects = joined_front f objects (at + 1); messages = messages }
front_more f objects at messages old new below was step =
    let item = item_at objects at below in
    let front = map f (take at objects) in
    let behind = drop (at + 1) objects in
    let cut : old.objects ≡ front ++ item.0 ∷ behind = ap (λ (c : Contents). c.objects) was ∙ ap (λ l. front ++ l) item.2 in
    let long : at ≡ length front = place at objects below in
    let more : front ++ (f item.0 ∷ behind) ≡ joined_front f objects (at + 1) =
    sym (append_assoc front (f item.0 ∷ []) behind) ∙ ap (λ l. l ++ behind) (sym (map-append f (take at objects) (item.0 ∷ [])) ∙ ap (map f) (sym item.1)) in
    step front behind item.0 cut long ∙ (λ i. record { objects = more i; messages = (was i).messages })
  where
    place : (at : ℕ) (objects : List DictionaryEntry) → at < length objects → at ≡ length (map f (take at objects))
    place at [] below = absurd (omega (arith, below))
    place zero (e ∷ es) below = refl
    place (suc at) (e ∷ es) below = ap suc (place at es (omega arith))

pub front_all : (f : DictionaryEntry → DictionaryEntry) (objects : List DictionaryEntry) (at : ℕ) → at ≡ length objects → joined_front f objects at ≡ map f objects
front_all f objects at e = ap (joined_front f objects) e ∙ whole objects
  where
    whole : (objects : List DictionaryEntry) → joined_front f objects (length objects) ≡ map f objects
    whole [] = refl
    whole (e ∷ es) = ap (λ l. f e ∷ l) (whole es)

-- what is kept of the records gives what they join
pub joined_is : (kept : List ℕ → List (List ℕ)) (lists : List CodeRecord) (old : Contents) → ((name : List ℕ) → kept name ≡ once [] (codes_for name lists))
    → record old { objects = map (given_entry kept) old.objects } ≡ joined_contents lists old
joined_is kept lists old h =
    ap (λ (l : List DictionaryEntry). record old { objects = l })
    (map_same (given_entry kept) (joined_entry lists) old.objects
    (λ e. ap (λ l. if is_code_set e.object.kind && is_none_yet e.object.codes then entry_with_codes (map code_of l) e else e) (h e.object.name)))

-- ---- texts

once_texts : (seen cs : List (List ℕ)) → All IsXmlText cs → All IsXmlText (once seen cs)
once_texts seen [] h = h
once_texts seen (c ∷ cs) h = case (list_any (bytes_eq c) seen) (once_texts seen cs (All-tail IsXmlText c cs h)) (once_texts (c ∷ seen) cs (All-tail IsXmlText c cs h))
  where
    case : (b : Bool) → All IsXmlText (once seen cs) → All IsXmlText (once (c ∷ seen) cs) → All IsXmlText (if b then once seen cs else c ∷ once (c ∷ seen) cs)
    case true more new = more
    case false more new = All-cons IsXmlText c (once (c ∷ seen) cs) (All-head IsXmlText c cs h) new

codes_texts : (name : List ℕ) (rs : List CodeRecord) → AreCodes rs → All IsXmlText (codes_for name rs)
codes_texts name [] h = All-nil IsXmlText
codes_texts name (r ∷ rs) h = case (bytes_eq r.set name) (codes_texts name rs (All-tail (λ (r : CodeRecord). IsXmlText r.code) r rs h))
  where
    case : (b : Bool) → All IsXmlText (codes_for name rs) → All IsXmlText (if b then r.code ∷ codes_for name rs else codes_for name rs)
    case true k = All-cons IsXmlText r.code (codes_for name rs) (All-head (λ (r : CodeRecord). IsXmlText r.code) r rs h) k
    case false k = k

-- what is kept of codes are texts
pub kept_texts : (kept : List ℕ → List (List ℕ)) (lists : List CodeRecord) → AreCodes lists → ((name : List ℕ) → kept name ≡ once [] (codes_for name lists)) → (name : List ℕ) → All IsXmlText (kept name)
kept_texts kept lists texts h name = subst (All IsXmlText) (sym (h name)) (once_texts [] (codes_for name lists) (codes_texts name lists texts))

pub defs_texts : (texts : List (List ℕ)) (defs : List CodeDef) → All IsXmlText texts → defs ≡ map code_of texts → All HasCodeTexts defs
defs_texts texts defs h is = subst (All HasCodeTexts) (sym is) (All-map HasCodeTexts code_of texts (λ k d below. record { name = h k d below; code = h k d below }))
