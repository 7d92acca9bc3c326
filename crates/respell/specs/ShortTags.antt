-- Trees whose tags, as a fragment has them, are no longer than those that a reader of XML takes.
use Rattle.std.specs.Prelude.{ℕ, ◌≤◌, List, length, Option, None}
use Rattle.lexical_core.specs.Tree.{Nodes, Nothing, Element, Text, Tree}
use Rattle.markup.specs.Marks.{tag_limit}
use Rattle.fragments.specs.Fragment.{default_within, start_text, end_text}

-- the start and end tags of these nodes have at most so many bytes, where this default namespace stands so far
abbrev pub HaveShortTags : ℕ → Option (List ℕ) → Nodes → Type 0
HaveShortTags limit default Nothing = Unit {0}
HaveShortTags limit default (Element name attributes children rest) =
    (length (start_text default name attributes) ≤ limit) × (length (end_text name) ≤ limit) × HaveShortTags limit (default_within default name) children × HaveShortTags limit default rest
HaveShortTags limit default (Text char rest) = HaveShortTags limit default rest

-- No start or end tag in the tree's fragment has more than 1,048,576 bytes.
abbrev pub HasShortTags : Tree → Type 0
HasShortTags t = HaveShortTags tag_limit None (Element t.name t.attributes t.children Nothing)
