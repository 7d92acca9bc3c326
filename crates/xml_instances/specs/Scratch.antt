-- How many bytes are held for the text of the open leaf, and that none are of others; how many for the open token.
use Rattle.std.specs.Prelude.{◌≡◌, ℕ, List, [], ◌∷◌, Option, Some, None, length, slice_get}
use Rattle.std.specs.Global.{Box}
use Rattle.facets.specs.LeafChecks.{IsHeldWithin, leaf_limit}
use Rattle.markup.specs.Reading.{open_token_held as held_open}
use Rattle.xml_instances.specs.Levels.{Level, Leaf}
use Rattle.xml_instances.specs.Judges.{held_by_judge, IsUnused}
use Rattle.xml_instances.specs.Open.{IsTextInnermost}
use Rattle.xml_instances.specs.Verdicts.{IsLean}
use Rattle.xml_instances.specs.declared.judge.Judge.{Judge}
use Rattle.xml_instances.specs.declared.checker.XmlChecker.{XmlChecker}
use Rattle.xml_instances.specs.declared.content.Content.{Content}
use Rattle.xml_instances.specs.declared.content.OpenText.{OpenText}
use Rattle.xml_instances.specs.declared.opened.Opened.{Opened}
use Rattle.xml_instances.specs.declared.opened.Opened.TheVariants as opened

-- those that its judge holds; none where no leaf is open
abbrev pub held_by : Option Opened → Option OpenText → ℕ
held_by (Some opened.Text) (Some t) = held_by_judge t.judge.value
held_by innermost text = 0

abbrev pub held_in : Content → ℕ
held_in content = held_by content.innermost content.text

-- the checker keeps no pieces, and no more of a text than is needed to tell whether it is a leaf
abbrev pub KeepsNoLeaf : XmlChecker → Type 0
KeepsNoLeaf checker = IsLean checker.content

-- the checker keeps no pieces
abbrev pub KeepsNoPieces : XmlChecker → Type 0
KeepsNoPieces checker = checker.content.pieces ≡ None

abbrev pub scratch : XmlChecker → ℕ
scratch checker = held_in checker.content

-- Of leaves it holds no more than `scratch` counts: no text is open but that of the innermost element, and each judge that is kept for a leaf to come is unused.
pub record HoldsNoEndedLeaf (checker : XmlChecker) : Type 0 where
  pub text : IsTextInnermost checker.content.innermost checker.content.text
  pub judges : (n : ℕ) (judge : Box Judge) → slice_get checker.content.checks.entries.items n ≡ Some (Some judge) → IsUnused judge.value

-- it holds no event, and no judge of a leaf
pub record HasLetGo (checker : XmlChecker) : Type 0 where
  pub events : checker.events ≡ []
  pub judges : checker.content.checks.entries.items ≡ []
  pub text : checker.content.text ≡ None

-- how many bytes it holds for the open token
abbrev pub checker_token : XmlChecker → ℕ
checker_token checker = held_open checker.reader

-- Where these elements are open, so many bytes are at most four to each character so far of a leaf, within the limit of its type, and 64. Where the innermost is no
-- leaf there are none.
abbrev pub IsScratchWithin : List (Level ℕ) → ℕ → Type 0
IsScratchWithin (Leaf simple text ∷ ls) bytes = IsHeldWithin (leaf_limit simple) (length text) bytes
IsScratchWithin ls bytes = bytes ≡ 0
