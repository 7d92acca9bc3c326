-- The text of events, as a fragment has it.
use Rattle.std.specs.Prelude.{◌≡◌, ℕ, false, List, [], ◌∷◌, ◌++◌, drop, Option, None}
use Rattle.lexical_core.specs.Tree.{Item, Starts, Char, Ends, Skipped, Tree, flat}
use Rattle.lexical_core.specs.Escapes.{escape_of}
use Rattle.fragments.specs.Plain.{AreSortedEntries}
use Rattle.fragments.specs.Fragment.{default_within, start_text, end_text}

-- the default namespace so far: that within the innermost open element
abbrev pub nearest : List (Option (List ℕ)) → Option (List ℕ)
nearest [] = None
nearest (default ∷ outer) = default

-- the text of events, where these defaults stand within the open elements, the innermost first
abbrev pub respelled_text : List (Option (List ℕ)) → List Item → List ℕ
respelled_text defaults [] = []
respelled_text defaults (Starts name attributes ∷ items) = start_text (nearest defaults) name attributes ++ respelled_text (default_within (nearest defaults) name ∷ defaults) items
respelled_text defaults (Char c ∷ items) = escape_of false c ++ respelled_text defaults items
respelled_text defaults (Ends name ∷ items) = end_text name ++ respelled_text (drop 1 defaults) items
respelled_text defaults (Skipped ∷ items) = respelled_text defaults items

-- the defaults behind them
abbrev pub defaults_behind : List (Option (List ℕ)) → List Item → List (Option (List ℕ))
defaults_behind defaults [] = defaults
defaults_behind defaults (Starts name attributes ∷ items) = defaults_behind (default_within (nearest defaults) name ∷ defaults) items
defaults_behind defaults (Char c ∷ items) = defaults_behind defaults items
defaults_behind defaults (Ends name ∷ items) = defaults_behind (drop 1 defaults) items
defaults_behind defaults (Skipped ∷ items) = defaults_behind defaults items

-- the events that speak of the tree
abbrev pub told_of : List Item → List Item
told_of [] = []
told_of (Skipped ∷ items) = told_of items
told_of (Starts name attributes ∷ items) = Starts name attributes ∷ told_of items
told_of (Char c ∷ items) = Char c ∷ told_of items
told_of (Ends name ∷ items) = Ends name ∷ told_of items

-- The events, none counted that are skipped, are a front of those of some tree.
abbrev pub AreFront : List Item → Type 0
AreFront items = (t : Tree) × (more : List Item) × (told_of items ++ more ≡ flat t)

-- They are those of this tree.
abbrev pub AreOf : List Item → Tree → Type 0
AreOf items t = told_of items ≡ flat t

-- The attributes of an element that starts are sorted by namespace and then by local name, no two alike.
abbrev pub HasSortedAttributes : Item → Type 0
HasSortedAttributes (Starts name attributes) = AreSortedEntries attributes
HasSortedAttributes (Char c) = Unit {0}
HasSortedAttributes (Ends name) = Unit {0}
HasSortedAttributes Skipped = Unit {0}
