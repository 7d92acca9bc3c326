-- The attributes of a start tag in which no names clash are told in order, no two alike.
use Rattle.std.proofs.Common.{◌≡◌, ℕ, Bool, true, false, List, [], ◌∷◌, ◌||◌, ◌&&◌, Option, Some, None, refl, sym, ap, ap₂, ◌∙◌, if◌then◌else◌}
use Rattle.std.specs.Prelude.{is_none}
use Rattle.std.specs.List.{list_any, AllByRecursion}
use Rattle.std.specs.Ordering.{is_lt, ordering_reverse}
use Rattle.std.specs.declared.cmp.Ordering.{Ordering}
use Rattle.std.specs.declared.cmp.Ordering.TheVariants.{Less, Equal, Greater}
use Rattle.std.proofs.lemmas.Bool.{or_parts}
use Rattle.lexical_core.specs.Tree.{Expanded, Entry}
use Rattle.lexical_core.proofs.StableSort.{Climbs, NoneLess, climbs-sorted}
use Rattle.lexical_core.specs.Names.{name_cmp}
use Rattle.markup.specs.declared.tag.Given.{Given}
use Rattle.markup.specs.declared.tag.Opening.{Opening}
use Rattle.markup.specs.Events.{declared_prefix, attribute_name, entries, put, put_named}
use Rattle.markup.specs.Faults.{clash, has_clash, same_declared, same_expanded}
use Rattle.markup.specs.inner.TagParts.{is_named, sorted_entries}
use Rattle.markup.proofs.Twins.{by_name, entries_total, any-put, any_twins, any_twins-put, sorted_same, tied_named}
use Rattle.fragments.specs.Plain.{AreSortedEntries}

-- ---- in order

-- the attributes with expanded names, as the tag has them
abbrev named_in : List ℕ → Option Expanded → List Entry → List Entry
named_in value None es = es
named_in value (Some name) es = record { name = name; value = value } ∷ es

abbrev kept : List Opening → List Given → List Entry
kept tags [] = []
kept tags (a ∷ more) = if is_none (declared_prefix a.name) then named_in a.value (attribute_name tags a.name) (kept tags more) else kept tags more

entries_sorted : (tags : List Opening) (given : List Given) → entries tags given ≡ sorted_entries (kept tags given)
entries_sorted tags [] = refl
entries_sorted tags (a ∷ more) = step (is_none (declared_prefix a.name)) (attribute_name tags a.name) a.value (entries tags more) (kept tags more) (entries_sorted tags more)
  where
    step : (b : Bool) (n : Option Expanded) (v : List ℕ) (es fs : List Entry) → es ≡ sorted_entries fs → (if b then put_named v n es else es) ≡ sorted_entries (if b then named_in v n fs else fs)
    step false n v es fs e = e
    step true None v es fs e = e
    step true (Some name) v es fs e = ap (put (record { name = name; value = v })) e

entries_climb : (tags : List Opening) (given : List Given) → Climbs by_name (entries tags given)
entries_climb tags given = Rattle.std.proofs.Common.subst (λ (es : List Entry). Climbs by_name es) (sym (entries_sorted tags given ∙ sorted_same (kept tags given))) (climbs-sorted entries_total (kept tags given))

-- ---- no two alike

abbrev any_named : Option Expanded → List Entry → Bool
any_named None es = false
any_named (Some name) es = list_any (is_named name) es

named_put : (n m : Option Expanded) (v : List ℕ) (es : List Entry) → same_expanded n m ≡ false → any_named n es ≡ false → any_named n (put_named v m es) ≡ false
named_put None m v es c h = refl
named_put (Some x) None v es c h = h
named_put (Some x) (Some y) v es c h = any-put (is_named x) (record { name = y; value = v }) es ∙ ap₂ (λ (a b : Bool). a || b) c h

none_named : (tags : List Opening) (a : Given) (more : List Given) → declared_prefix a.name ≡ None → list_any (λ b. clash tags a.name b.name) more ≡ false → any_named (attribute_name tags a.name) (entries tags more) ≡ false
none_named tags a [] none h = nothing (attribute_name tags a.name)
  where
    nothing : (n : Option Expanded) → any_named n [] ≡ false
    nothing None = refl
    nothing (Some n) = refl
none_named tags a (b ∷ more) none h =
    let parts = or_parts (clash tags a.name b.name) (list_any (λ b. clash tags a.name b.name) more) h in
    let n = attribute_name tags a.name in let m = attribute_name tags b.name in let d = declared_prefix b.name in
    let c : (same_declared None d || (true && is_none d && same_expanded n m)) ≡ false = ap (λ (o : Option (List ℕ)). same_declared o d || (is_none o && is_none d && same_expanded n m)) (sym none) ∙ parts.0 in
    step d n m b.value (entries tags more) c (none_named tags a more none parts.1)
  where
    step : (d : Option (List ℕ)) (n m : Option Expanded) (v : List ℕ) (es : List Entry) → (same_declared None d || (true && is_none d && same_expanded n m)) ≡ false → any_named n es ≡ false
        → any_named n (if is_none d then put_named v m es else es) ≡ false
    step None n m v es c h = named_put n m v es c h
    step (Some p) n m v es c h = h

twins_put : (n : Option Expanded) (v : List ℕ) (es : List Entry) → any_named n es ≡ false → any_twins es ≡ false → any_twins (put_named v n es) ≡ false
twins_put None v es h g = g
twins_put (Some name) v es h g = any_twins-put (record { name = name; value = v }) es ∙ ap₂ (λ (a b : Bool). a || b) h g

entries_apart : (tags : List Opening) (given : List Given) → has_clash tags given ≡ false → any_twins (entries tags given) ≡ false
entries_apart tags [] h = refl
entries_apart tags (a ∷ more) h =
    let parts = or_parts (list_any (λ b. clash tags a.name b.name) more) (has_clash tags more) h in
    step (declared_prefix a.name) (attribute_name tags a.name) a.value (entries tags more) (λ none. none_named tags a more none parts.0) (entries_apart tags more parts.1)
  where
    step : (d : Option (List ℕ)) (n : Option Expanded) (v : List ℕ) (es : List Entry) → (d ≡ None → any_named n es ≡ false) → any_twins es ≡ false → any_twins (if is_none d then put_named v n es else es) ≡ false
    step None n v es k g = twins_put n v es (k refl) g
    step (Some p) n v es k g = g

-- ---- each before all that follow

less : (e f : Entry) → is_lt (by_name f e) ≡ false → is_named e.name f ≡ false → by_name e f ≡ Less
less e f h g = case (by_name e f) refl
  where
    case : (o : Ordering) → by_name e f ≡ o → o ≡ Less
    case Less is = refl
    case Equal is = absurd (let t = tied_named e f is in cc)
    case Greater is = absurd (let low : is_lt (by_name f e) ≡ true = ap is_lt (entries_total.antisymm f e ∙ ap ordering_reverse is) in cc)

all_less : (e : Entry) (es : List Entry) → NoneLess by_name e es → list_any (is_named e.name) es ≡ false → AllByRecursion (λ f. name_cmp e.name f.name ≡ Less) es
all_less e [] h g = tt
all_less e (f ∷ es) h g = let parts = or_parts (is_named e.name f) (list_any (is_named e.name) es) g in (less e f h.0 parts.0, all_less e es h.1 parts.1)

sorted_from : (es : List Entry) → Climbs by_name es → any_twins es ≡ false → AreSortedEntries es
sorted_from [] up h = tt
sorted_from (e ∷ es) up h = let parts = or_parts (list_any (is_named e.name) es) (any_twins es) h in (all_less e es up.0 parts.0, sorted_from es up.1 parts.1)

pub entries_are_sorted : (tags : List Opening) (given : List Given) → has_clash tags given ≡ false → AreSortedEntries (entries tags given)
entries_are_sorted tags given h = sorted_from (entries tags given) (entries_climb tags given) (entries_apart tags given h)
