-- Entries of one name: among all, and next to each other in the order of names.
use Rattle.std.proofs.Common.{◌≡◌, ℕ, Bool, true, false, List, [], ◌∷◌, ◌||◌, ◌&&◌, refl, sym, ap, ◌∙◌}
use Rattle.std.specs.Cmp.{IsTotalOrder}
use Rattle.std.specs.Cmp.Lexicographic.{slice_cmp}
use Rattle.std.specs.List.{list_any}
use Rattle.std.specs.Ordering.{nat_cmp, is_lt, is_eq, ordering_then, ordering_reverse}
use Rattle.std.specs.Str.{bytes_eq}
use Rattle.std.specs.declared.cmp.Ordering.{Ordering}
use Rattle.std.specs.declared.cmp.Ordering.TheVariants.{Less, Equal, Greater}
use Rattle.std.proofs.lemmas.Bool.{and_parts}
use Rattle.std.proofs.lemmas.Cmp.{nat_list_cmp_total, nat_list_eq_equiv, on_total, then_total}
use Rattle.std.proofs.lemmas.Map.Text.{is_eq-slice_cmp}
use Rattle.std.proofs.lemmas.Slice.Eq.{bytes_eq-Decides}
use Rattle.lexical_core.specs.Tree.{Expanded, Entry}
use Rattle.lexical_core.specs.Names.{name_cmp}
use Rattle.lexical_core.proofs.StableSort.{put_by, sorted_by, Climbs, NoneLess, climbs-sorted}
use Rattle.markup.specs.Events.{put}
use Rattle.markup.specs.inner.TagParts.{is_named, first_is_named, has_twins, sorted_entries}
use Rattle.markup.proofs.TagPartLemmas.{or_assoc, or_swap}

-- ---- names in order

pub names_total : IsTotalOrder name_cmp
names_total = then_total (on_total (λ (e : Expanded). e.namespace) nat_list_cmp_total) (on_total (λ (e : Expanded). e.local) nat_list_cmp_total)

abbrev pub by_name : Entry → Entry → Ordering
by_name x y = name_cmp x.name y.name

pub entries_total : IsTotalOrder by_name
entries_total = on_total (λ (e : Entry). e.name) names_total

both_equal : (r s : Ordering) → ordering_then r s ≡ Equal → (r ≡ Equal) × (s ≡ Equal)
both_equal Less s e = absurd cc
both_equal Equal s e = (refl, e)
both_equal Greater s e = absurd cc

-- entries that tie have one name
pub tied_named : (x y : Entry) → by_name x y ≡ Equal → is_named x.name y ≡ true
tied_named x y e =
    let parts = both_equal (slice_cmp nat_cmp x.name.namespace y.name.namespace) (slice_cmp nat_cmp x.name.local y.name.local) e in
    let first : bytes_eq x.name.namespace y.name.namespace ≡ true = sym (is_eq-slice_cmp x.name.namespace y.name.namespace) ∙ ap is_eq parts.0 in
    let second : bytes_eq x.name.local y.name.local ≡ true = sym (is_eq-slice_cmp x.name.local y.name.local) ∙ ap is_eq parts.1 in
    ap (λ b. b && bytes_eq x.name.local y.name.local) first ∙ second

pub named_same : (x y : Entry) → is_named x.name y ≡ true → x.name ≡ y.name
named_same x y e =
    let parts = and_parts (bytes_eq x.name.namespace y.name.namespace) (bytes_eq x.name.local y.name.local) e in
    let first : x.name.namespace ≡ y.name.namespace = (bytes_eq-Decides x.name.namespace y.name.namespace).0 parts.0 in
    let second : x.name.local ≡ y.name.local = (bytes_eq-Decides x.name.local y.name.local).0 parts.1 in
    ap (λ (n : List ℕ). record { namespace = n; local = x.name.local }) first ∙ ap (λ (l : List ℕ). record { namespace = y.name.namespace; local = l }) second

then_equal : (r s : Ordering) → is_eq (ordering_then r s) ≡ (is_eq r && is_eq s)
then_equal Less s = refl
then_equal Equal s = refl
then_equal Greater s = refl

-- one name is one that ties
pub named_tied : (n : Expanded) (e : Entry) → is_eq (name_cmp n e.name) ≡ is_named n e
named_tied n e =
    then_equal (slice_cmp nat_cmp n.namespace e.name.namespace) (slice_cmp nat_cmp n.local e.name.local) ∙ (ap (λ b. b && is_eq (slice_cmp nat_cmp n.local e.name.local)) (is_eq-slice_cmp n.namespace e.name.namespace)
    ∙ ap (λ b. bytes_eq n.namespace e.name.namespace && b) (is_eq-slice_cmp n.local e.name.local))

pub named_back : (x y : Entry) → is_named x.name y ≡ is_named y.name x
named_back x y = ap (λ b. b && bytes_eq x.name.local y.name.local) (nat_list_eq_equiv.symm x.name.namespace y.name.namespace) ∙ ap (λ b. bytes_eq y.name.namespace x.name.namespace && b) (nat_list_eq_equiv.symm x.name.local y.name.local)

-- ---- an entry put at its place

pub any-put : (p : Entry → Bool) (x : Entry) (ys : List Entry) → list_any p (put x ys) ≡ (p x || list_any p ys)
any-put p x [] = refl
any-put p x (y ∷ ys) = case (name_cmp x.name y.name) (any-put p x ys)
  where
    case : (o : Ordering) → list_any p (put x ys) ≡ (p x || list_any p ys) → list_any p (elim o as (λ _. List Entry) [ Less ↦ x ∷ y ∷ ys | Equal ↦ x ∷ y ∷ ys | Greater ↦ y ∷ put x ys ]) ≡ (p x || list_any p (y ∷ ys))
    case Less so = refl
    case Equal so = refl
    case Greater so = ap (λ b. p y || b) so ∙ or_swap (p y) (p x) (list_any p ys)

-- two of the entries have one name
abbrev pub any_twins : List Entry → Bool
any_twins [] = false
any_twins (e ∷ es) = list_any (is_named e.name) es || any_twins es

or_middle : (s p q t : Bool) → ((s || p) || (q || t)) ≡ ((s || q) || (p || t))
or_middle s p q t = or_assoc s p (q || t) ∙ ap (λ b. s || b) (or_swap p q t) ∙ sym (or_assoc s q (p || t))

pub any_twins-put : (x : Entry) (ys : List Entry) → any_twins (put x ys) ≡ (list_any (is_named x.name) ys || any_twins ys)
any_twins-put x [] = refl
any_twins-put x (y ∷ ys) = case (name_cmp x.name y.name) (any_twins-put x ys)
  where
    case : (o : Ordering) → any_twins (put x ys) ≡ (list_any (is_named x.name) ys || any_twins ys)
        → any_twins (elim o as (λ _. List Entry) [ Less ↦ x ∷ y ∷ ys | Equal ↦ x ∷ y ∷ ys | Greater ↦ y ∷ put x ys ]) ≡ (list_any (is_named x.name) (y ∷ ys) || any_twins (y ∷ ys))
    case Less so = refl
    case Equal so = refl
    case Greater so =
        ap (λ b. b || any_twins (put x ys)) (any-put (is_named y.name) x ys ∙ ap (λ b. b || list_any (is_named y.name) ys) (named_back y x)) ∙ ap (λ b. (is_named x.name y || list_any (is_named y.name) ys) || b) so
        ∙ or_middle (is_named x.name y) (list_any (is_named y.name) ys) (list_any (is_named x.name) ys) (any_twins ys)

-- ---- twins stand next to each other

put_same : (x : Entry) (ys : List Entry) → put x ys ≡ put_by by_name x ys
put_same x [] = refl
put_same x (y ∷ ys) = case (name_cmp x.name y.name) (put_same x ys)
  where
    case : (o : Ordering) → put x ys ≡ put_by by_name x ys → elim o as (λ _. List Entry) [ Less ↦ x ∷ y ∷ ys | Equal ↦ x ∷ y ∷ ys | Greater ↦ y ∷ put x ys ] ≡ elim o as (λ _. List Entry) [ Less ↦ x ∷ y ∷ ys | Equal ↦ x ∷ y ∷ ys | Greater ↦ y ∷ put_by by_name x ys ]
    case Less so = refl
    case Equal so = refl
    case Greater so = ap (λ zs. y ∷ zs) so

pub sorted_same : (es : List Entry) → sorted_entries es ≡ sorted_by by_name es
sorted_same [] = refl
sorted_same (e ∷ es) = put_same e (sorted_entries es) ∙ ap (put_by by_name e) (sorted_same es)

less_from : (r s : Ordering) → s ≡ ordering_reverse r → is_lt r ≡ false → (r ≡ Equal → ⊥) → s ≡ Less
less_from Less s e not_less apart = absurd cc
less_from Equal s e not_less apart = absurd (apart refl)
less_from Greater s e not_less apart = e

none_named : (e f : Entry) (fs : List Entry) → by_name e f ≡ Less → NoneLess by_name f fs → list_any (is_named e.name) fs ≡ false
none_named e f [] less all = refl
none_named e f (h ∷ hs) less all = case (is_named e.name h) refl (none_named e f hs less all.1)
  where
    case : (b : Bool) → is_named e.name h ≡ b → list_any (is_named e.name) hs ≡ false → list_any (is_named e.name) (h ∷ hs) ≡ false
    case false is so = ap (λ b. b || list_any (is_named e.name) hs) is ∙ so
    case true is so =
        let low : is_lt (by_name h f) ≡ true = ap (λ n. is_lt (name_cmp n f.name)) (sym (named_same e h is)) ∙ ap is_lt less in
        let other : is_lt (by_name h f) ≡ false = all.0 in
        absurd cc

next_named : (e : Entry) (es : List Entry) → Climbs by_name (e ∷ es) → list_any (is_named e.name) es ≡ first_is_named e.name es
next_named e [] up = refl
next_named e (f ∷ fs) up = case (is_named e.name f) refl
  where
    case : (b : Bool) → is_named e.name f ≡ b → (is_named e.name f || list_any (is_named e.name) fs) ≡ is_named e.name f
    case true is = ap (λ b. b || list_any (is_named e.name) fs) is ∙ sym is
    case false is =
        let apart : by_name f e ≡ Equal → ⊥ = λ tie. let same : is_named e.name f ≡ true = named_back e f ∙ tied_named f e tie in absurd cc in
        let less : by_name e f ≡ Less = less_from (by_name f e) (by_name e f) (entries_total.antisymm e f) up.0.0 apart in
        ap (λ b. b || list_any (is_named e.name) fs) is ∙ none_named e f fs less up.1.0 ∙ sym is

twins_climb : (es : List Entry) → Climbs by_name es → any_twins es ≡ has_twins es
twins_climb [] up = refl
twins_climb (e ∷ es) up = ap (λ b. b || any_twins es) (next_named e es up) ∙ ap (λ b. first_is_named e.name es || b) (twins_climb es up.1)

pub twins_next : (es : List Entry) → any_twins (sorted_entries es) ≡ has_twins (sorted_entries es)
twins_next es = ap any_twins (sorted_same es) ∙ twins_climb (sorted_by by_name es) (climbs-sorted entries_total es) ∙ ap has_twins (sym (sorted_same es))
