-- The attributes of a tag with expanded names.
use Rattle.std.proofs.Common.{◌≡◌, ◌≤◌, ◌<◌, ℕ, suc, nat_lt, ◌+◌, ◌-◌, Bool, true, false, cond, List, [], ◌∷◌, ◌||◌, length, vec_len, map, Option, Some, None, refl, sym, ap, subst, ◌∙◌, arith}
use Rattle.std.specs.Global.{Vec}
use Rattle.std.specs.Bool.{if◌then◌else◌}
use Rattle.std.specs.Option.{is_none}
use Rattle.std.specs.List.{list_any, list_all, filter_map, cons_option}
use Rattle.std.specs.List.Retain.{RetainsInTurn}
use Rattle.std.proofs.lemmas.Bool.{and_parts}
use Rattle.std.proofs.lemmas.Grind.{common_steps}
use Rattle.std.proofs.lemmas.Bool.Decides.{nat_tests}
use Rattle.lexical_core.specs.Tree.{Expanded as FullName, Entry}
use Rattle.markup.specs.declared.tag.Given.{Given}
use Rattle.markup.specs.declared.tag.Opening.{Opening}
use Rattle.markup.specs.declared.attributes.Expanded.{Expanded}
use Rattle.markup.specs.declared.attributes.TagAttribute.{TagAttribute}
use Rattle.markup.specs.Events.{declared_prefix, attribute_name, put, put_named, entries}
use Rattle.markup.specs.Faults.{has_clash, clash, same_expanded}
use Rattle.markup.specs.Scopes.{declarations}
use Rattle.markup.specs.TagAttributes.{tag_entry}
use Rattle.markup.specs.inner.TagParts.{declares_none, is_unbound, is_named, IsExpanded, plain_attributes, entry_under, attribute_under, named_entry, sorted_entries, has_twins}
use Rattle.markup.proofs.Twins.{any-put, any_twins, any_twins-put, twins_next}

pub none_is : {X : Type 0} (o : Option X) → is_none o ≡ true → o ≡ None
none_is None e = refl
none_is (Some x) e = absurd cc

-- ---- clashes

-- two attributes that declare nothing clash by their expanded names
clash-plain : (tags : List Opening) (x y : Given) → declared_prefix x.name ≡ None → declared_prefix y.name ≡ None → clash tags x.name y.name ≡ same_expanded (attribute_name tags x.name) (attribute_name tags y.name)
clash-plain tags x y e f = simp (e, f)

-- one of the entries has the name, if there is one
abbrev any_named : Option FullName → List Entry → Bool
any_named None es = false
any_named (Some name) es = list_any (is_named name) es

any_named-put : (n m : Option FullName) (value : List ℕ) (es : List Entry) → (same_expanded n m || any_named n es) ≡ any_named n (put_named value m es)
any_named-put None m value es = refl
any_named-put (Some x) None value es = refl
any_named-put (Some x) (Some y) value es = sym (any-put (is_named x) (record { name = y; value = value }) es)

any_clash : (tags : List Opening) (x : Given) → declared_prefix x.name ≡ None → (plain : List Given) → list_all declares_none plain ≡ true
    → list_any (λ b. clash tags x.name b.name) plain ≡ any_named (attribute_name tags x.name) (entries tags plain)
any_clash tags x none [] all = case (attribute_name tags x.name)
  where
    case : (n : Option FullName) → false ≡ any_named n []
    case None = refl
    case (Some name) = refl
any_clash tags x none (b ∷ more) all =
    let parts = and_parts (declares_none b) (list_all declares_none more) all in
    let none_b : declared_prefix b.name ≡ None = none_is (declared_prefix b.name) parts.0 in
    let here : clash tags x.name b.name ≡ same_expanded (attribute_name tags x.name) (attribute_name tags b.name) = clash-plain tags x b none none_b in
    let others : list_any (λ b. clash tags x.name b.name) more ≡ any_named (attribute_name tags x.name) (entries tags more) = any_clash tags x none more parts.1 in
    let both : entries tags (b ∷ more) ≡ put_named b.value (attribute_name tags b.name) (entries tags more) = ap (λ d. if is_none d then put_named b.value (attribute_name tags b.name) (entries tags more) else entries tags more) none_b in
    ap (λ c. c || list_any (λ b. clash tags x.name b.name) more) here ∙ ap (λ c. same_expanded (attribute_name tags x.name) (attribute_name tags b.name) || c) others
    ∙ any_named-put (attribute_name tags x.name) (attribute_name tags b.name) b.value (entries tags more) ∙ ap (any_named (attribute_name tags x.name)) (sym both)

-- ---- one attribute

-- those that are left of all of them
pub retained : {S X G E : Type 0} (R : S → X → Bool → S → X → Type 0) (given : X → G) (found : G → Option E) (entry : X → E) (s : S)
    → ((x : X) (b : Bool) (t : S) (y : X) → R s x b t y → (found (given x) ≡ (if b then Some (entry y) else None)) × (t ≡ s))
    → (xs ys : List X) → RetainsInTurn R s xs ys → map entry ys ≡ filter_map found (map given xs)
retained R given found entry s says [] ys h = ap (map entry) h
retained R given found entry s says (x ∷ xs) ys h =
    let said = says x h.0 h.1 h.2 h.3 in
    let rest = retained R given found entry s says xs h.4 (subst (λ t. RetainsInTurn R t xs h.4) said.1 h.5) in
    ap (map entry) h.6 ∙ (one h.0 h.2 h.4 ∙ (ap (λ es. cons_option (if h.0 then Some (entry h.2) else None) es) rest ∙ ap (λ o. cons_option o (filter_map found (map given xs))) (sym said.0)))
  where
    one : (b : Bool) (y : _) (zs : List _) → map entry (cond b (y ∷ zs) zs) ≡ cons_option (if b then Some (entry y) else None) (map entry zs)
    one true y zs = refl
    one false y zs = refl

-- the attributes of a tag that declare nothing
pub found_plain : (tags : List Opening) (given : List Given) → filter_map (attribute_under tags) given ≡ filter_map (entry_under tags) (plain_attributes given)
found_plain tags [] = refl
found_plain tags (a ∷ more) = case (declares_none a) refl (found_plain tags more)
  where
    case : (b : Bool) → declares_none a ≡ b → filter_map (attribute_under tags) more ≡ filter_map (entry_under tags) (plain_attributes more) → filter_map (attribute_under tags) (a ∷ more) ≡ filter_map (entry_under tags) (plain_attributes (a ∷ more))
    case true e so = ap (λ b. cons_option (if b then entry_under tags a else None) (filter_map (attribute_under tags) more)) e ∙ (ap (cons_option (entry_under tags a)) so ∙ ap (λ b. filter_map (entry_under tags) (if b then a ∷ plain_attributes more else plain_attributes more)) (sym e))
    case false e so = ap (λ b. cons_option (if b then entry_under tags a else None) (filter_map (attribute_under tags) more)) e ∙ (so ∙ ap (λ b. filter_map (entry_under tags) (if b then a ∷ plain_attributes more else plain_attributes more)) (sym e))

-- ---- how many there are

pub counted : {X : Type 0} (v : Vec X) (n : ℕ) → n ≡ vec_len v → n ≡ length v.items
counted v n e = grind (arith, common_steps)

-- each attribute of a tag declares or does not
count_parts : (given : List Given) → length given ≡ length (declarations given) + length (plain_attributes given)
count_parts [] = refl
count_parts (a ∷ more) = case (declares_none a) refl (count_parts more)
  where
    case : (b : Bool) → declares_none a ≡ b → length more ≡ length (declarations more) + length (plain_attributes more) → length (a ∷ more) ≡ length (declarations (a ∷ more)) + length (plain_attributes (a ∷ more))
    case true e so = rw e (omega (arith, so))
    case false e so = rw e (omega (arith, so))

-- fewer are left than there are where the prefix of one is bound to nothing
few_left : (tags : List Opening) (plain : List Given) → (length (filter_map (entry_under tags) plain) ≤ length plain) × (nat_lt (length (filter_map (entry_under tags) plain)) (length plain) ≡ list_any (is_unbound tags) plain)
few_left tags [] = (omega arith, refl)
few_left tags (a ∷ more) = case (attribute_name tags a.name) (few_left tags more)
  where
    Fewer : Option FullName → Type 0
    Fewer n = (length (cons_option (named_entry a.value n) (filter_map (entry_under tags) more)) ≤ suc (length more)) × (nat_lt (length (cons_option (named_entry a.value n) (filter_map (entry_under tags) more))) (suc (length more)) ≡ (is_none n || list_any (is_unbound tags) more))

    both_more : (x y : ℕ) → nat_lt (suc x) (suc y) ≡ nat_lt x y
    both_more x y = grind (arith, nat_tests)

    below : (x y : ℕ) → x < y → nat_lt x y ≡ true
    below x y h = grind (arith, nat_tests, h)

    case : (n : Option FullName) → (length (filter_map (entry_under tags) more) ≤ length more) × (nat_lt (length (filter_map (entry_under tags) more)) (length more) ≡ list_any (is_unbound tags) more) → Fewer n
    case None so = (omega (arith, so.0), below (length (filter_map (entry_under tags) more)) (suc (length more)) (omega (arith, so.0)))
    case (Some name) so = (omega (arith, so.0), both_more (length (filter_map (entry_under tags) more)) (length more) ∙ so.1)

-- from the number of all, of declarations and of those that are left
pub left_unbound : (tags : List Opening) (given : List Given) (left count declared : ℕ) → left ≡ length (filter_map (attribute_under tags) given) → count ≡ length given → declared ≡ length (declarations given)
    → nat_lt left (count - declared) ≡ list_any (is_unbound tags) (plain_attributes given)
left_unbound tags given left count declared l c d =
    let e : count - declared ≡ length (plain_attributes given) = omega (arith, count_parts given, c, d) in
    rw (l ∙ ap length (found_plain tags given), e) (few_left tags (plain_attributes given)).1

-- ---- all of them

-- the entries are those attributes in the order of their names
pub entries_sorted : (tags : List Opening) (plain : List Given) → list_all declares_none plain ≡ true → entries tags plain ≡ sorted_entries (filter_map (entry_under tags) plain)
entries_sorted tags [] all = refl
entries_sorted tags (a ∷ more) all = case (attribute_name tags a.name) (entries_sorted tags more parts.1)
  where
    parts : (declares_none a ≡ true) × (list_all declares_none more ≡ true)
    parts = and_parts (declares_none a) (list_all declares_none more) all

    put_in : (n : Option FullName) → entries tags more ≡ sorted_entries (filter_map (entry_under tags) more) → put_named a.value n (entries tags more) ≡ sorted_entries (cons_option (named_entry a.value n) (filter_map (entry_under tags) more))
    put_in None so = so
    put_in (Some name) so = ap (put (record { name = name; value = a.value })) so

    case : (n : Option FullName) → entries tags more ≡ sorted_entries (filter_map (entry_under tags) more) → entries tags (a ∷ more) ≡ sorted_entries (filter_map (entry_under tags) (a ∷ more))
    case n so = ap (λ b. if b then put_named a.value (attribute_name tags a.name) (entries tags more) else entries tags more) parts.0 ∙ put_in (attribute_name tags a.name) so

-- two attributes clash where two entries have one name
pub clash_twins : (tags : List Opening) (plain : List Given) → list_all declares_none plain ≡ true → has_clash tags plain ≡ any_twins (entries tags plain)
clash_twins tags [] all = refl
clash_twins tags (a ∷ more) all =
    let parts = and_parts (declares_none a) (list_all declares_none more) all in
    let kept : entries tags (a ∷ more) ≡ put_named a.value (attribute_name tags a.name) (entries tags more) = ap (λ b. if b then put_named a.value (attribute_name tags a.name) (entries tags more) else entries tags more) parts.0 in
    ap (λ b. b || has_clash tags more) (any_clash tags a (none_is (declared_prefix a.name) parts.0) more parts.1) ∙ ap (λ b. any_named (attribute_name tags a.name) (entries tags more) || b) (clash_twins tags more parts.1)
    ∙ twins_named (attribute_name tags a.name) ∙ ap any_twins (sym kept)
  where
    twins_named : (n : Option FullName) → (any_named n (entries tags more) || any_twins (entries tags more)) ≡ any_twins (put_named a.value n (entries tags more))
    twins_named None = refl
    twins_named (Some name) = sym (any_twins-put (record { name = name; value = a.value }) (entries tags more))

pub expanded_is : (tags : List Opening) (given : List Given) (attributes : List TagAttribute) (found : List Entry) (expanded : Expanded) → found ≡ filter_map (attribute_under tags) given
    → (expanded.has_clash ≡ false → map tag_entry attributes ≡ sorted_entries found) → expanded.has_clash ≡ has_twins (sorted_entries found) → expanded.is_unbound ≡ list_any (is_unbound tags) (plain_attributes given)
    → list_all declares_none (plain_attributes given) ≡ true → IsExpanded tags (plain_attributes given) expanded attributes
expanded_is tags given attributes found expanded is_found is_sorted is_clash is_unbound all =
    let plain : List Given = plain_attributes given in
    let whole : sorted_entries found ≡ sorted_entries (filter_map (entry_under tags) plain) = ap sorted_entries (is_found ∙ found_plain tags given) in
    record {
      entries = λ n. is_sorted n ∙ whole ∙ sym (entries_sorted tags plain all);
      clash = is_clash ∙ ap has_twins whole ∙ sym (twins_next (filter_map (entry_under tags) plain)) ∙ ap any_twins (sym (entries_sorted tags plain all)) ∙ sym (clash_twins tags plain all);
      unbound = is_unbound;
    }
