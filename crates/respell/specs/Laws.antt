-- What holds of canonical fragments.
use Rattle.std.specs.Prelude.{◌≡◌, ℕ, ◌≤◌, true, false, List, [], ◌++◌, length, reverse, map}
use Rattle.std.specs.List.{AllByRecursion}
use Rattle.lexical_core.specs.Characters.{IsXmlChar}
use Rattle.lexical_core.specs.Tree.{Item, Starts, Char, Ends, Skipped, Tree, TreeIs, flat}
use Rattle.markup.specs.Token.{Token}
use Rattle.markup.specs.Marks.{Front, Marks, tag_limit, in_cdata}
use Rattle.markup.specs.Events.{Placed, events, open_tags}
use Rattle.markup.specs.Faults.{IsClean, is_over}
use Rattle.fragments.specs.Plain.{IsPlainName, ArePlainEntries, IsPlain}
use Rattle.fragments.specs.Fragment.{fragment}
use Rattle.respell.specs.Respelling.{AreOf}
use Rattle.respell.specs.ShortTags.{HasShortTags}

-- A fragment is that of one tree.
abbrev pub OneTree : Type 0
OneTree = (t u : Tree) → IsPlain t → IsPlain u → fragment t ≡ fragment u → t ≡ u

-- No fragment is a proper front of another.
abbrev pub NoProperFront : Type 0
NoProperFront = (t u : Tree) (rest : List ℕ) → IsPlain t → IsPlain u → fragment t ++ rest ≡ fragment u → rest ≡ []

-- The bytes, in which tags have at most so many bytes, are tokens that break no rule up to the root's end, and their events are those of the tree.
pub record ReadsTree (limit : ℕ) (bytes : List ℕ) (t : Tree) : Type 0 where
  pub tokens : List Token
  pub marks : Front limit [] bytes tokens []
  pub clean : IsClean [] tokens
  pub over : is_over (reverse tokens) ≡ true
  pub told : map (λ (p : Placed). p.item) (events [] 0 tokens) ≡ flat t

-- A fragment is read back as its tree, whatever limit its tags keep.
abbrev pub ReadBack : Type 0
ReadBack = (t : Tree) (limit : ℕ) → IsPlain t → length (fragment t) ≤ limit → ReadsTree limit (fragment t) t

-- an event that speaks of a plain tree
abbrev pub IsPlainItem : Item → Type 0
IsPlainItem (Starts name attributes) = IsPlainName name × ArePlainEntries attributes
IsPlainItem (Char c) = IsXmlChar c
IsPlainItem (Ends name) = Unit {0}
IsPlainItem Skipped = Unit {0}

-- The events of tokens that break no rule speak of a plain tree.
abbrev pub EventsArePlain : Type 0
EventsArePlain = (limit : ℕ) (bytes : List ℕ) (tokens : List Token) (rest : List ℕ) → Front limit [] bytes tokens rest → IsClean [] tokens
    → AllByRecursion IsPlainItem (map (λ (p : Placed). p.item) (events [] 0 tokens))

-- A tree is plain whose events all speak of a plain one.
abbrev pub TreeIsPlain : Type 0
TreeIsPlain = (items : List Item) (t : Tree) → AllByRecursion IsPlainItem items → AreOf items t → IsPlain t

-- The tree of whole bytes, in which nothing breaks a rule, is one that XML can spell.
abbrev pub WholeIsPlain : Type 0
WholeIsPlain = (bytes : List ℕ) (tokens : List Token) (t : Tree) → Marks bytes tokens → IsClean [] tokens → is_over (reverse tokens) ≡ true
    → TreeIs (map (λ (p : Placed). p.item) (events [] 0 tokens)) t → IsPlain t

-- Behind these tokens the bytes are tokens, whatever follows, in which nothing breaks a rule; their events are these, and behind them the same elements are open.
pub record StandsBehind (before : List Token) (bytes : List ℕ) (items : List Item) : Type 0 where
  pub tokens : List Token
  pub marks : (rest : List ℕ) → Front tag_limit before (bytes ++ rest) tokens rest
  pub clean : IsClean before tokens
  pub told : (place : ℕ) → map (λ (p : Placed). p.item) (events before place tokens) ≡ items
  pub tags : open_tags (reverse tokens ++ before) ≡ open_tags before
  pub cdata : in_cdata (reverse tokens ++ before) ≡ false

-- A fragment with short tags stands behind any tokens that break no rule, outside CDATA sections and before the root's end, as it stands by itself.
abbrev pub FragmentWithin : Type 0
FragmentWithin = (t : Tree) (bytes : List ℕ) (tokens : List Token) (rest : List ℕ) → IsPlain t → HasShortTags t → Front tag_limit [] bytes tokens rest → IsClean [] tokens
    → in_cdata (reverse tokens) ≡ false → is_over (reverse tokens) ≡ false → StandsBehind (reverse tokens) (fragment t) (flat t)
