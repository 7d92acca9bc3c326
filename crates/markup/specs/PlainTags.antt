-- Tags that a reader takes whole: without attributes and white space, with the prefix of the innermost open element or, as that, without one; the local name of a start tag is of ASCII letters, digits, `-`, `.` and `_` (XML 1.0 §3.1).
use Rattle.std.specs.Prelude.{◌≡◌, ℕ, Bool, ◌==◌, ◌||◌, ◌&&◌, ◌<◌, ◌≤◌, false, true, List, [], ◌∷◌, ◌++◌, length, take, drop, Option, Some, None, if◌then◌else◌}
use Rattle.std.specs.Int.{is_in_range}
use Rattle.std.specs.List.{list_all}
use Rattle.lexical_core.specs.Tree.{Expanded, Item, Starts, Char, Ends, Skipped}
use Rattle.markup.specs.Ascii.{slash, colon, less_than, greater_than}
use Rattle.markup.specs.Marks.{tag_limit}
use Rattle.markup.specs.Events.{Placed}
use Rattle.markup.specs.declared.tag.Opening.{Opening}
use Rattle.markup.specs.declared.tag.Spelled.{Spelled}
use Rattle.markup.specs.declared.plain_tag.TagKind.{TagKind}
use Rattle.markup.specs.declared.plain_tag.TagKind.TheVariants.{Start, Empty, End}

-- a byte that a plain name may begin with: an ASCII letter or `_` (XML 1.0 §2.3, NameStartChar)
abbrev pub begins_plain : ℕ → Bool
begins_plain b = is_in_range 97 122 b || is_in_range 65 90 b || b == 95

-- one that it may go on with: such a byte, a digit, `-` or `.` (XML 1.0 §2.3, NameChar)
abbrev pub continues_plain : ℕ → Bool
continues_plain b = begins_plain b || is_in_range 48 57 b || is_in_range 45 46 b

-- a name of such bytes
abbrev pub is_plain_name : List ℕ → Bool
is_plain_name [] = false
is_plain_name (b ∷ more) = begins_plain b && list_all continues_plain more

-- what is written of a prefix and a local name (Namespaces in XML 1.0 §4, QName)
abbrev pub joined_text : List ℕ → List ℕ → List ℕ
joined_text [] local = local
joined_text (b ∷ more) local = (b ∷ more) ++ colon ∷ local

-- the tag of a name, as it is written
abbrev pub tag_text : TagKind → List ℕ → List ℕ
tag_text Start name = less_than ∷ (name ++ greater_than ∷ [])
tag_text Empty name = less_than ∷ (name ++ slash ∷ greater_than ∷ [])
tag_text End name = less_than ∷ slash ∷ (name ++ greater_than ∷ [])

-- how many bytes it has beside the name
abbrev pub mark_count : TagKind → ℕ
mark_count Start = 2
mark_count Empty = 3
mark_count End = 3

-- its events
abbrev pub tag_items : TagKind → Expanded → List Item
tag_items Start name = Starts name [] ∷ []
tag_items Empty name = Starts name [] ∷ Ends name ∷ []
tag_items End name = Ends name ∷ []

-- the names of the elements that are open behind an event, the innermost first
abbrev pub open_after : List Expanded → Item → List Expanded
open_after opened (Starts name entries) = name ∷ opened
open_after opened (Ends name) = drop 1 opened
open_after opened (Char c) = opened
open_after opened Skipped = opened

-- and behind these events
abbrev pub open_behind : List Expanded → List Placed → List Expanded
open_behind opened [] = opened
open_behind opened (e ∷ es) = open_behind (open_after opened e.item) es

-- the namespace of the innermost of these elements
abbrev pub innermost_namespace : List Expanded → List ℕ
innermost_namespace [] = []
innermost_namespace (e ∷ outer) = e.namespace

-- a name in the namespace of the innermost element that is open behind these events
abbrev pub name_behind : List Placed → List ℕ → Expanded
name_behind told local = record { namespace = innermost_namespace (open_behind [] told); local = local }

-- The local name may stand in the tag, where that of the innermost open element is spelled so.
abbrev pub may_be_named : TagKind → List ℕ → List ℕ → Type 0
may_be_named Start opened name = is_plain_name name ≡ true
may_be_named Empty opened name = is_plain_name name ≡ true
may_be_named End opened name = name ≡ opened

-- So many bytes at the front of the piece are the tag of the prefix and the local name.
pub record IsTagAt (piece prefix opened : List ℕ) (kind : TagKind) (name : List ℕ) (count : ℕ) : Type 0 where
  pub spelled : take count piece ≡ tag_text kind (joined_text prefix name)
  pub some : 0 < count
  pub within : count ≤ length piece
  pub short : count ≤ tag_limit
  pub named : may_be_named kind opened name

-- The innermost open element is spelled so.
abbrev pub IsInsideOf : List Opening → Spelled → Type 0
IsInsideOf [] name = ⊥
IsInsideOf (tag ∷ tags) name = tag.name ≡ name

-- the tags that are open behind the tag of a name
abbrev pub tags_behind : TagKind → Spelled → List Opening → List Opening
tags_behind Start name tags = record { name = name; given = []; is_empty = false } ∷ tags
tags_behind Empty name tags = tags
tags_behind End name tags = drop 1 tags

-- The tag stands at the front of the piece, and breaks no rule where these tags are open.
pub record IsTagInside (piece : List ℕ) (tags : List Opening) (prefix : List ℕ) (kind : TagKind) (name : List ℕ) (count : ℕ) : Type 0 where
  pub opened : List ℕ
  pub inside : IsInsideOf tags (record { prefix = prefix; local = opened })
  pub at : IsTagAt piece prefix opened kind name count

-- what the bytes behind the name of a start tag make of it
abbrev pub slash_kind : List ℕ → Option TagKind
slash_kind [] = None
slash_kind (b ∷ rest) = if b == greater_than then Some Empty else None

abbrev pub closing : List ℕ → Option TagKind
closing [] = None
closing (b ∷ rest) = if b == greater_than then Some Start else (if b == slash then slash_kind rest else None)
