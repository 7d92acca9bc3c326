-- The declarations and the attributes of a start tag, apart.
use Rattle.std.specs.Prelude.{◌≡◌, ℕ, length, Bool, ◌||◌, ◌&&◌, true, false, List, [], ◌∷◌, ◌++◌, map, if◌then◌else◌, is_none, Option, Some, None}
use Rattle.std.specs.List.{list_any}
use Rattle.std.specs.Str.{bytes_eq}
use Rattle.std.specs.Ordering.{is_lt}
use Rattle.lexical_core.specs.Names.{name_cmp}
use Rattle.lexical_core.specs.Tree.{Expanded, Entry}
use Rattle.markup.specs.declared.tag.Given.{Given}
use Rattle.markup.specs.declared.tag.Opening.{Opening}
use Rattle.markup.specs.declared.scope.Resolved.{Resolved}
use Rattle.markup.specs.declared.scope.Scope.{Scope}
use Rattle.markup.specs.declared.bindings.Bindings.{Bindings}
use Rattle.markup.specs.declared.attributes.TagAttribute.{TagAttribute}
use Rattle.markup.specs.declared.attributes.Declared.{Declared}
use Rattle.markup.specs.declared.attributes.Expanded.{Expanded as ExpandedAttributes}
use Rattle.markup.specs.Events.{declared_prefix, namespace_of, attribute_name, put, entries}
use Rattle.markup.specs.Faults.{same_declared, is_bad_declaration, has_clash, is_bad_attribute}
use Rattle.markup.specs.TagAttributes.{tag_entry}
use Rattle.markup.specs.inner.Bindings.{Binds}
use Rattle.markup.specs.inner.Origins.{namespace_from}
use Rattle.markup.specs.inner.OpenNames.{KeepsNames}
use Rattle.markup.specs.Scopes.{declarations, all_declarations, open_name}

-- It declares no namespace.
abbrev pub declares_none : Given → Bool
declares_none a = is_none (declared_prefix a.name)

-- the attributes of a tag that declare none
abbrev pub plain_attributes : List Given → List Given
plain_attributes [] = []
plain_attributes (a ∷ more) = if declares_none a then a ∷ plain_attributes more else plain_attributes more

-- two of these declare one prefix
abbrev pub declares_twice : List Given → Bool
declares_twice [] = false
declares_twice (a ∷ more) = list_any (λ b. same_declared (declared_prefix a.name) (declared_prefix b.name)) more || declares_twice more

-- a declaration that may not be
abbrev pub declares_badly : Given → Bool
declares_badly a = is_bad_declaration (declared_prefix a.name) a.value

-- an attribute whose prefix is bound to nothing
abbrev pub is_unbound : List Opening → Given → Bool
is_unbound tags a = is_none (attribute_name tags a.name)

-- an attribute of this expanded name
abbrev pub is_named : Expanded → Entry → Bool
is_named name e = bytes_eq name.namespace e.name.namespace && bytes_eq name.local e.name.local

-- The first of the entries has the name.
abbrev pub first_is_named : Expanded → List Entry → Bool
first_is_named name [] = false
first_is_named name (e ∷ es) = is_named name e

-- Two neighbours have one name.
abbrev pub has_twins : List Entry → Bool
has_twins [] = false
has_twins (e ∷ es) = first_is_named e.name es || has_twins es

-- the entries in the order of their names
abbrev pub sorted_entries : List Entry → List Entry
sorted_entries [] = []
sorted_entries (e ∷ es) = put e (sorted_entries es)

-- an attribute's value under its expanded name, if there is one
abbrev pub named_entry : List ℕ → Option Expanded → Option Entry
named_entry value None = None
named_entry value (Some name) = Some (record { name = name; value = value })

-- an attribute of a tag as its event has it, if its name has an expanded one
abbrev pub entry_under : List Opening → Given → Option Entry
entry_under tags a = named_entry a.value (attribute_name tags a.name)

-- an attribute of a tag as its event has it, if it declares nothing and its name has an expanded one
abbrev pub attribute_under : List Opening → Given → Option Entry
attribute_under tags a = if declares_none a then entry_under tags a else None

-- The name is below that of the first of the entries.
abbrev pub is_below_first : Expanded → List Entry → Bool
is_below_first name [] = true
is_below_first name (e ∷ es) = is_lt (name_cmp name e.name)

-- Each name is below that of the next entry.
abbrev pub are_ascending : List Entry → Bool
are_ascending [] = true
are_ascending (e ∷ es) = is_below_first e.name es && are_ascending es

-- what an attribute or a declaration gives
abbrev pub tag_given : TagAttribute → Given
tag_given a = record { name = record { prefix = a.prefix.now; local = a.name.now }; value = a.value.now }

-- a start tag of this name with these attributes and declarations, as they are spelled
abbrev pub spelled_opening : List ℕ → List ℕ → List TagAttribute → Bool → Opening
spelled_opening prefix name attributes is_empty = record { name = record { prefix = prefix; local = name }; given = map tag_given attributes; is_empty = is_empty }

-- an attribute with its expanded name, by the declarations that are open
abbrev pub bound_entry : Bindings → TagAttribute → Entry
bound_entry kept a = record { name = record { namespace = namespace_from kept a.origin; local = a.name.now }; value = a.value.now }

-- the declarations of a tag, open behind those before, and whether two are of one prefix
pub record AreDeclared (before given : List Given) (declared : Declared) (kept : Bindings) : Type 0 where
  pub kept_are : Binds kept (declarations given ++ before)
  pub clash : declared.has_clash ≡ declares_twice given

-- the attributes of a tag under these tags, its own the first, as an event has them, and what is wrong with them
pub record IsExpanded (tags : List Opening) (plain : List Given) (expanded : ExpandedAttributes) (attributes : List TagAttribute) : Type 0 where
  pub entries : expanded.has_clash ≡ false → map tag_entry attributes ≡ entries tags plain
  pub clash : expanded.has_clash ≡ has_clash tags plain
  pub unbound : expanded.is_unbound ≡ list_any (is_unbound tags) plain

-- a start tag under the tags that are open before it; the scope has its declarations, and not yet its name
pub record IsResolved (tags : List Opening) (tag : Opening) (resolved : Resolved) (attributes : List TagAttribute) (scope : Scope) : Type 0 where
  pub names : KeepsNames scope.names (map open_name tags)
  pub declarations_are : Binds scope.bindings (all_declarations (tag ∷ tags))
  pub count : resolved.declared ≡ length (declarations tag.given)
  pub namespace : resolved.namespace ≡ namespace_of (tag ∷ tags) tag.name.prefix
  pub entries : resolved.has_clash ≡ false → map tag_entry attributes ≡ entries (tag ∷ tags) tag.given
  pub clash : resolved.has_clash ≡ has_clash (tag ∷ tags) tag.given
  pub bad : resolved.is_bad ≡ list_any (is_bad_attribute (tag ∷ tags)) tag.given
