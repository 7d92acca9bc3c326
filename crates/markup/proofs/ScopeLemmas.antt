-- The open elements before and behind a tag.
use Rattle.std.proofs.Common.{◌≡◌, ℕ, Bool, true, false, List, [], ◌∷◌, ◌++◌, ◌||◌, length, drop, map, Option, Some, None, inl, inr, refl, sym, ap, subst, ◌∙◌, arith}
use Rattle.std.specs.List.{list_any}
use Rattle.std.specs.Bool.{if◌then◌else◌}
use Rattle.std.specs.Option.{is_none}
use Rattle.std.proofs.lemmas.Bool.{or_parts}
use Rattle.std.proofs.Math.Seq.{drop-append_seam}
use Rattle.lexical_core.specs.declared.rule.Rule.TheVariants.{DuplicateAttribute, BadPrefix, AfterRoot}
use Rattle.markup.specs.declared.tag.Given.{Given}
use Rattle.markup.specs.declared.tag.Opening.{Opening}
use Rattle.markup.specs.declared.event.Event.{Event}
use Rattle.markup.specs.declared.attributes.Declared.{Declared}
use Rattle.markup.specs.declared.attributes.TagAttribute.{TagAttribute}
use Rattle.markup.specs.declared.attributes.Expanded.{Expanded}
use Rattle.markup.specs.inner.OpenNames.{OpenName, KeepsNames, IsInnermost}
use Rattle.markup.specs.declared.bindings.Bindings.{Bindings}
use Rattle.markup.specs.declared.scope.Scope.{Scope}
use Rattle.markup.specs.declared.scope.Stop.{Stop}
use Rattle.markup.specs.declared.scope.Stop.TheVariants.{Rule as Breaks, Memory}
use Rattle.markup.specs.declared.scope.Opened.{Opened}
use Rattle.markup.specs.declared.scope.Resolved.{Resolved}
use Rattle.markup.specs.Events.{namespace_of, element_name, expanded_in, entries, start_tag_items, start_items}
use Rattle.markup.specs.Faults.{has_clash, is_bad_attribute, start_rule}
use Rattle.markup.specs.EventItems.{Tells, TellsFront, TellsClean}
use Rattle.markup.specs.TagAttributes.{tag_entry}
use Rattle.markup.specs.inner.Bindings.{Binds}
use Rattle.markup.specs.Scopes.{declarations, open_name, all_declarations, IsScope, placed_at, StopsStart, TakesStart}
use Rattle.markup.specs.PlainTags.{IsInsideOf}
use Rattle.markup.specs.inner.WholeStarts.{named_by}
use Rattle.markup.specs.inner.TagParts.{tag_given, spelled_opening, plain_attributes, declares_twice, declares_badly, is_unbound, AreDeclared, IsExpanded, IsResolved}
use Rattle.markup.specs.inner.StartTags.{StopsFor, Opens}
use Rattle.markup.proofs.EventTells.{tells_none}
use Rattle.markup.proofs.WholeTags.{whole_entries, whole_clash, whole_bad}

-- the declarations behind those of the innermost tag
pub forgotten : (kept : Bindings) (own before : List Given) (count : ℕ) → count ≡ length own → Binds kept (drop count (own ++ before)) → Binds kept before
forgotten kept own before count is left = subst (Binds kept) (ap (λ n. drop n (own ++ before)) is ∙ drop-append_seam own before) left

pub resolved : (tags : List Opening) (tag : Opening) (scope : Scope) (given : List Given) (parts : Declared) (kept : Bindings) (prefix : List ℕ) (namespace : Option (List ℕ)) (expanded : Expanded) (attributes : List TagAttribute)
    → IsScope scope tags → tag.given ≡ given → parts.is_bad ≡ list_any declares_badly given → AreDeclared (all_declarations tags) given parts kept → parts.count ≡ length (declarations given) → prefix ≡ tag.name.prefix
    → ((ts : List Opening) → Binds kept (all_declarations ts) → namespace ≡ namespace_of ts prefix)
    → ((ts : List Opening) → Binds kept (all_declarations ts) → IsExpanded ts (plain_attributes given) expanded attributes)
    → IsResolved tags tag (record { namespace = namespace; declared = parts.count; has_clash = parts.has_clash || expanded.has_clash; is_bad = parts.is_bad || expanded.is_unbound }) attributes
    (record { alloc = scope.alloc; names = scope.names; bindings = kept })
resolved tags tag scope given parts kept prefix namespace expanded attributes is_scope is_given is_bad declared is_count is_prefix is_namespace is_expanded =
    let under : List Opening = tag ∷ tags in
    let known : Binds kept (all_declarations under) = subst (λ gs. Binds kept (declarations gs ++ all_declarations tags)) (sym is_given) declared.kept_are in
    let told : IsExpanded under (plain_attributes given) expanded attributes = is_expanded under known in
    let plain : plain_attributes given ≡ plain_attributes tag.given = ap plain_attributes (sym is_given) in
    record {
      names = is_scope.names;
      declarations_are = known;
      count = is_count ∙ ap (λ gs. length (declarations gs)) (sym is_given);
      namespace = is_namespace under known ∙ ap (namespace_of under) is_prefix;
      entries = λ n. told.entries (or_parts parts.has_clash expanded.has_clash n).1 ∙ ap (entries under) plain ∙ sym (whole_entries under tag.given);
      clash = ap (λ b. b || expanded.has_clash) (declared.clash ∙ ap declares_twice (sym is_given)) ∙ ap (λ b. declares_twice tag.given || b) (told.clash ∙ ap (has_clash under) plain) ∙ sym (whole_clash under tag.given);
      bad = ap (λ b. b || expanded.is_unbound) (is_bad ∙ ap (list_any declares_badly) (sym is_given)) ∙ ap (λ b. list_any declares_badly tag.given || b) (told.unbound ∙ ap (list_any (is_unbound under)) plain) ∙ sym (whole_bad under tag.given);
    }

-- ---- a start tag that breaks no rule

-- the least rule that a tag breaks, by what was found of it
pub rule_is : (over : Bool) (tags : List Opening) (tag : Opening) (r : Resolved) (attributes : List TagAttribute) (scope : Scope) → IsResolved tags tag r attributes scope
    → start_rule over tags tag ≡ (if r.has_clash then Some DuplicateAttribute else (if is_none r.namespace || r.is_bad then Some BadPrefix else (if over then Some AfterRoot else None)))
rule_is over tags tag r attributes scope is =
    ap (λ b. if b then Some DuplicateAttribute else (if is_none (element_name (tag ∷ tags) tag.name) || list_any (is_bad_attribute (tag ∷ tags)) tag.given then Some BadPrefix else (if over then Some AfterRoot else None))) (sym is.clash)
    ∙ ap (λ b. if r.has_clash then Some DuplicateAttribute else (if b || list_any (is_bad_attribute (tag ∷ tags)) tag.given then Some BadPrefix else (if over then Some AfterRoot else None))) (none_named (namespace_of (tag ∷ tags) tag.name.prefix) ∙ ap is_none (sym is.namespace))
    ∙ ap (λ b. if r.has_clash then Some DuplicateAttribute else (if is_none r.namespace || b then Some BadPrefix else (if over then Some AfterRoot else None))) (sym is.bad)
  where
    none_named : (o : Option (List ℕ)) → is_none (expanded_in o tag.name.local) ≡ is_none o
    none_named None = refl
    none_named (Some ns) = refl

keeps_rules : (over : Bool) (tags : List Opening) (tag : Opening) (r : Resolved) (attributes : List TagAttribute) (scope : Scope) (ns : List ℕ)
    → IsResolved tags tag r attributes scope → r.has_clash ≡ false → r.namespace ≡ Some ns → r.is_bad ≡ false → over ≡ false → start_rule over tags tag ≡ None
keeps_rules over tags tag r attributes scope ns is no_clash bound fine inside = rule_is over tags tag r attributes scope is ∙ rw (no_clash, bound, fine, inside) refl

-- an unbound prefix, a bad one, and a second root
pub rule_unbound : (over : Bool) (tags : List Opening) (tag : Opening) (r : Resolved) (attributes : List TagAttribute) (scope : Scope)
    → IsResolved tags tag r attributes scope → r.has_clash ≡ false → r.namespace ≡ None → start_rule over tags tag ≡ Some BadPrefix
rule_unbound over tags tag r attributes scope is no_clash unbound = rule_is over tags tag r attributes scope is ∙ rw (no_clash, unbound) refl

pub rule_bad : (over : Bool) (tags : List Opening) (tag : Opening) (r : Resolved) (attributes : List TagAttribute) (scope : Scope) (ns : List ℕ)
    → IsResolved tags tag r attributes scope → r.has_clash ≡ false → r.namespace ≡ Some ns → r.is_bad ≡ true → start_rule over tags tag ≡ Some BadPrefix
rule_bad over tags tag r attributes scope ns is no_clash bound bad = rule_is over tags tag r attributes scope is ∙ rw (no_clash, bound, bad) refl

pub rule_over : (over : Bool) (tags : List Opening) (tag : Opening) (r : Resolved) (attributes : List TagAttribute) (scope : Scope) (ns : List ℕ)
    → IsResolved tags tag r attributes scope → r.has_clash ≡ false → r.namespace ≡ Some ns → r.is_bad ≡ false → over ≡ true → start_rule over tags tag ≡ Some AfterRoot
rule_over over tags tag r attributes scope ns is no_clash bound fine outside = rule_is over tags tag r attributes scope is ∙ rw (no_clash, bound, fine, outside) refl

-- where no declarations are counted there are none
pub none_own : (given : List Given) (count : ℕ) → count ≡ length (declarations given) → count ≡ 0 → declarations given ≡ []
none_own given count is zero = empty (declarations given) (sym is ∙ zero)
  where
    empty : (xs : List Given) → length xs ≡ 0 → xs ≡ []
    empty [] e = refl
    empty (x ∷ xs) e = absurd (omega (arith, e))

pub opens : (over : Bool) (tags : List Opening) (tag : Opening) (r : Resolved) (attributes : List TagAttribute) (before after : Scope) (opened : Opened)
    → IsResolved tags tag r attributes before → r.has_clash ≡ false → r.namespace ≡ Some opened.ns → r.is_bad ≡ false → over ≡ false → tag.is_empty ≡ false
    → (opened.has_same_ns ≡ true → (r.declared ≡ 0) × (inner : List ℕ) × IsInsideOf tags (named_by tag.name.prefix inner))
    → ((names : List OpenName) → KeepsNames before.names names → KeepsNames after.names ((record { name = tag.name; declared = r.declared }) ∷ names)) → after.bindings ≡ before.bindings
    → Opens over tags tag attributes after opened
opens over tags tag r attributes before after opened is no_clash bound fine inside so same names_are declared_are =
    let scope_is : IsScope after (tag ∷ tags) = record {
      names = subst (λ n. KeepsNames after.names ((record { name = tag.name; declared = n }) ∷ map open_name tags)) is.count (names_are (map open_name tags) is.names);
      declared = subst (λ (kept : Bindings). Binds kept (all_declarations (tag ∷ tags))) (sym declared_are) is.declarations_are;
    } in
    record {
      clean = keeps_rules over tags tag r attributes before opened.ns is no_clash bound fine inside;
      namespace = sym is.namespace ∙ bound;
      same = λ h. (none_own tag.given r.declared is.count (same h).0, (same h).1, (same h).2);
      entries = is.entries no_clash;
      scope_is = subst (λ (b : Bool). IsScope after (if b then tags else tag ∷ tags)) (sym so) scope_is;
    }

pub passes : (over : Bool) (tags : List Opening) (tag : Opening) (r : Resolved) (attributes : List TagAttribute) (before after : Scope) (opened : Opened)
    → IsResolved tags tag r attributes before → r.has_clash ≡ false → r.namespace ≡ Some opened.ns → r.is_bad ≡ false → over ≡ false → tag.is_empty ≡ true
    → (opened.has_same_ns ≡ true → (r.declared ≡ 0) × (inner : List ℕ) × IsInsideOf tags (named_by tag.name.prefix inner))
    → after.names ≡ before.names → ((declared : List Given) → Binds before.bindings declared → Binds after.bindings (drop r.declared declared)) → Opens over tags tag attributes after opened
passes over tags tag r attributes before after opened is no_clash bound fine inside so same names_are declared_are =
    let scope_is : IsScope after tags = record {
      names = subst (λ k. KeepsNames k (map open_name tags)) (sym names_are) is.names;
      declared = forgotten after.bindings (declarations tag.given) (all_declarations tags) r.declared is.count (declared_are (all_declarations (tag ∷ tags)) is.declarations_are);
    } in
    record {
      clean = keeps_rules over tags tag r attributes before opened.ns is no_clash bound fine inside;
      namespace = sym is.namespace ∙ bound;
      same = λ h. (none_own tag.given r.declared is.count (same h).0, (same h).1, (same h).2);
      entries = is.entries no_clash;
      scope_is = subst (λ (b : Bool). IsScope after (if b then tags else tag ∷ tags)) (sym so) scope_is;
    }

-- the events of a tag that is opened
pub its_items : (over : Bool) (tags : List Opening) (tag : Opening) (attributes : List TagAttribute) (scope : Scope) (opened : Opened) → Opens over tags tag attributes scope opened
    → start_tag_items (Some (record { namespace = opened.ns; local = tag.name.local })) (map tag_entry attributes) tag.is_empty ≡ start_items tags tag
its_items over tags tag attributes scope opened is =
    ap (λ n. start_tag_items (expanded_in n tag.name.local) (map tag_entry attributes) tag.is_empty) (sym is.namespace) ∙ ap (λ es. start_tag_items (element_name (tag ∷ tags) tag.name) es tag.is_empty) is.entries

-- the tag as its parts spell it
pub opening_same : (tag : Opening) (prefix name : List ℕ) (attributes : List TagAttribute) → prefix ≡ tag.name.prefix → name ≡ tag.name.local → map tag_given attributes ≡ tag.given → spelled_opening prefix name attributes tag.is_empty ≡ tag
opening_same tag prefix name attributes p n g = λ i. record { name = record { prefix = p i; local = n i }; given = g i; is_empty = tag.is_empty }

module _ (over : Bool) (tags : List Opening) (tag : Opening) (place : ℕ) (old : List Event) where
  -- it stops before its events are told
  pub stops_before : (stop : Stop) → StopsFor (start_rule over tags tag) stop → StopsStart over tags tag place old old stop
  stops_before (Breaks rule) s = (s, refl)
  stops_before Memory s = (record { front = []; behind = placed_at place (start_items tags tag); tells = tells_none old old refl; front_is = refl }, inr refl)

  module _ (new : List Event) (attributes : List TagAttribute) (scope : Scope) (opened : Opened) (local : List ℕ) (is : Opens over tags tag attributes scope opened) (same : local ≡ tag.name.local) where
    items_are : start_tag_items (Some (record { namespace = opened.ns; local = local })) (map tag_entry attributes) tag.is_empty ≡ start_items tags tag
    items_are = ap (λ (n : List ℕ). start_tag_items (Some (record { namespace = opened.ns; local = n })) (map tag_entry attributes) tag.is_empty) same ∙ its_items over tags tag attributes scope opened is

    pub takes_start : Tells old new (placed_at place (start_tag_items (Some (record { namespace = opened.ns; local = local })) (map tag_entry attributes) tag.is_empty)) → TakesStart over tags tag place old new scope
    takes_start t = record { clean = is.clean; tells = subst (λ v. Tells old new (placed_at place v)) items_are t; scope_is = is.scope_is }

    pub tells_front : TellsFront old new (placed_at place (start_tag_items (Some (record { namespace = opened.ns; local = local })) (map tag_entry attributes) tag.is_empty)) → TellsClean (start_rule over tags tag) old new (placed_at place (start_items tags tag))
    tells_front t = (subst (λ v. TellsFront old new (placed_at place v)) items_are t, inl is.clean)

-- ---- an end tag that breaks no rule

-- the declarations of the innermost tag are forgotten with its name
pub closes_innermost : (before after : Scope) (tag : Opening) (tags : List Opening) (count : ℕ) → IsScope before (tag ∷ tags)
    → ((name : OpenName) (outer : List OpenName) → KeepsNames before.names (name ∷ outer) → (count ≡ name.declared) × KeepsNames after.names outer)
    → ((declared : List Given) → Binds before.bindings declared → Binds after.bindings (drop count declared)) → IsScope after tags
closes_innermost before after tag tags count is popped forgot =
    let p = popped (open_name tag) (map open_name tags) is.names in
    record { names = p.1; declared = forgotten after.bindings (declarations tag.given) (all_declarations tags) count p.0 (forgot (all_declarations (tag ∷ tags)) is.declared) }

-- ---- the innermost element

pub inside_of : (tags : List Opening) (prefix local : List ℕ) → IsInnermost prefix local (map open_name tags) → IsInsideOf tags (named_by prefix local)
inside_of [] prefix local i = i
inside_of (tag ∷ tags) prefix local i = i
