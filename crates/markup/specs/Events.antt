-- The events of each token, with names expanded by the declarations of the start tags that are open there (Namespaces in XML 1.0).
use Rattle.std.specs.Prelude.{ℕ, Bool, ◌&&◌, ◌+◌, false, List, [], ◌∷◌, ◌++◌, length, map, drop, codes, Option, Some, None, if◌then◌else◌, encode_utf8_all, is_none}
use Rattle.std.specs.Option.{option_or}
use Rattle.std.specs.Str.{bytes_eq}
use Rattle.std.specs.declared.cmp.Ordering.TheVariants.{Less, Equal, Greater}
use Rattle.lexical_core.specs.Tree.{Expanded, Entry, Item, Starts, Char, Ends, Skipped}
use Rattle.lexical_core.specs.Names.{xml_namespace, xmlns, name_cmp}
use Rattle.markup.specs.Ascii.{line_feed}
use Rattle.markup.specs.declared.tag.Spelled.{Spelled}
use Rattle.markup.specs.declared.tag.Given.{Given}
use Rattle.markup.specs.declared.tag.Opening.{Opening}
use Rattle.markup.specs.Name.{Name, Plain, Prefixed}
use Rattle.markup.specs.Reference.{referred_character}
use Rattle.markup.specs.Attribute.{Attribute, value_chars}
use Rattle.markup.specs.Token.{Token, Start, End, Refer, LineEnd, Character, StartTag, token_bytes}

-- the name's parts in bytes
abbrev pub spelled_name : Name → Spelled
spelled_name (Plain local) = record { prefix = []; local = encode_utf8_all local }
spelled_name (Prefixed prefix local) = record { prefix = encode_utf8_all prefix; local = encode_utf8_all local }

-- what an attribute gives
abbrev pub given_attribute : Attribute → Given
given_attribute a = record { name = spelled_name a.name; value = encode_utf8_all (value_chars a.value) }

-- what a start tag says
abbrev pub opening : StartTag → Opening
opening t = record { name = spelled_name t.name; given = map given_attribute t.attributes; is_empty = t.is_empty }

-- what the start tags said that are open behind these tokens, the innermost first; the tokens the latest first
abbrev pub open_tags : List Token → List Opening
open_tags [] = []
open_tags (Start tag ∷ before) = if tag.is_empty then open_tags before else opening tag ∷ open_tags before
open_tags (End name gap ∷ before) = drop 1 (open_tags before)
open_tags (_ ∷ before) = open_tags before

-- the prefix that an attribute of this name declares, the empty one for the default (Namespaces §3, PrefixedAttName, DefaultAttName)
abbrev pub declared_prefix : Spelled → Option (List ℕ)
declared_prefix n = if bytes_eq n.prefix xmlns then Some n.local else (if bytes_eq n.prefix [] && bytes_eq n.local xmlns then Some [] else None)

-- the declared prefix is this one
abbrev pub same_prefix : Option (List ℕ) → List ℕ → Bool
same_prefix None prefix = false
same_prefix (Some p) prefix = bytes_eq p prefix

-- the namespace that a tag binds to the prefix
abbrev pub bound_by : List Given → List ℕ → Option (List ℕ)
bound_by [] prefix = None
bound_by (a ∷ more) prefix = if same_prefix (declared_prefix a.name) prefix then Some a.value else bound_by more prefix

-- The namespace of a prefix, the empty one for the default, under these tags, the innermost first (Namespaces §6.1, §6.2).
abbrev pub namespace_of : List Opening → List ℕ → Option (List ℕ)
namespace_of [] prefix = if bytes_eq prefix [] then Some [] else (if bytes_eq prefix (codes "xml") then Some xml_namespace else None)
namespace_of (tag ∷ tags) prefix = option_or (bound_by tag.given prefix) (namespace_of tags prefix)

-- a local name in a namespace
abbrev pub expanded_in : Option (List ℕ) → List ℕ → Option Expanded
expanded_in None local = None
expanded_in (Some namespace) local = Some (record { namespace = namespace; local = local })

-- the expanded name of an element under these tags, its own the first (Namespaces §5)
abbrev pub element_name : List Opening → Spelled → Option Expanded
element_name tags n = expanded_in (namespace_of tags n.prefix) n.local

-- of an attribute: a default namespace does not apply to it (Namespaces §6.2)
abbrev pub attribute_name : List Opening → Spelled → Option Expanded
attribute_name tags n = expanded_in (if bytes_eq n.prefix [] then Some [] else namespace_of tags n.prefix) n.local

-- the attribute put at its place by `name_cmp`: namespace, then local name, by bytes
abbrev pub put : Entry → List Entry → List Entry
put x [] = x ∷ []
put x (y ∷ ys) = elim (name_cmp x.name y.name) [ Less ↦ x ∷ y ∷ ys | Equal ↦ x ∷ y ∷ ys | Greater ↦ y ∷ put x ys ]

-- an attribute with its value, where its name has an expanded one
abbrev pub put_named : List ℕ → Option Expanded → List Entry → List Entry
put_named value None entries = entries
put_named value (Some name) entries = put (record { name = name; value = value }) entries

-- the attributes that are no declarations, sorted by name (Namespaces §3)
abbrev pub entries : List Opening → List Given → List Entry
entries tags [] = []
entries tags (a ∷ more) = if is_none (declared_prefix a.name) then put_named a.value (attribute_name tags a.name) (entries tags more) else entries tags more

-- the events of a start tag; an empty element ends as well
abbrev pub start_tag_items : Option Expanded → List Entry → Bool → List Item
start_tag_items None entries is_empty = []
start_tag_items (Some name) entries is_empty = Starts name entries ∷ (if is_empty then Ends name ∷ [] else [])

-- the events of a start tag under the tags that are open before it; its own declarations apply to it (Namespaces §6.1)
abbrev pub start_items : List Opening → Opening → List Item
start_items tags tag = start_tag_items (element_name (tag ∷ tags) tag.name) (entries (tag ∷ tags) tag.given) tag.is_empty

-- the event of an end
abbrev pub end_tag_items : Option Expanded → List Item
end_tag_items None = []
end_tag_items (Some name) = Ends name ∷ []

-- the event of an end tag: the innermost open element ends
abbrev pub end_items : List Opening → List Item
end_items [] = []
end_items (tag ∷ tags) = end_tag_items (element_name (tag ∷ tags) tag.name)

-- The events of a token, behind the tokens before it. A line end is an LF (XML 1.0 §2.11).
abbrev pub items_of : List Token → Token → List Item
items_of before (Start tag) = start_items (open_tags before) (opening tag)
items_of before (End name gap) = end_items (open_tags before)
items_of before (Refer reference) = Char (referred_character reference) ∷ []
items_of before (LineEnd line) = Char line_feed ∷ []
items_of before (Character c) = Char c ∷ []
items_of before _ = Skipped ∷ []

-- an event with the place of its token's first byte
pub record Placed : Type 0 where
  pub place : ℕ
  pub item : Item

-- the events of these tokens, behind those before; the first token stands at the place
abbrev pub events : List Token → ℕ → List Token → List Placed
events before place [] = []
events before place (t ∷ ts) = map (λ i. record { place = place; item = i }) (items_of before t) ++ events (t ∷ before) (place + length (token_bytes t)) ts
