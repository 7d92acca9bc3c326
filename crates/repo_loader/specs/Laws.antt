-- What follows of the definitions.
use Rattle.std.specs.Prelude.{◌≡◌, ℕ, List, [], map}
use Rattle.lexical_core.specs.Tree.{Tree, TreeIs}
use Rattle.markup.specs.Events.{Placed}
use Rattle.repo_objects.specs.Repository.{Contents, IsRepository}
use Rattle.repo_loader.specs.declared.fault.LoadFault.{LoadFault}
use Rattle.repo_loader.specs.Selected.{tree_tags, event_tags}
use Rattle.repo_loader.specs.FileFaults.{tags_of}
use Rattle.repo_loader.specs.Loaded.{Spells, HasLoadFault}

-- What is read by the events of a tree is what is read of the tree.
abbrev pub SelectsTheTree : Type 0
SelectsTheTree = (es : List Placed) (tree : Tree) → TreeIs (map (λ (e : Placed). e.item) es) tree → tags_of (event_tags [] es) ≡ tree_tags tree

-- Bytes spell at most one repository.
abbrev pub OneRepository : Type 0
OneRepository = (bytes : List ℕ) (x y : Contents) → Spells bytes x → Spells bytes y → x ≡ y

-- The contents that bytes spell are a repository: no two objects have one id, and all texts are UTF-8 of characters of XML.
abbrev pub SpelledIsARepository : Type 0
SpelledIsARepository = (bytes : List ℕ) (x : Contents) → Spells bytes x → IsRepository x

-- Bytes have at most one first fault.
abbrev pub OneLoadFault : Type 0
OneLoadFault = (bytes : List ℕ) (f g : LoadFault) → HasLoadFault bytes f → HasLoadFault bytes g → f ≡ g

-- They have none where they spell a repository.
abbrev pub SpelledHasNoLoadFault : Type 0
SpelledHasNoLoadFault = (bytes : List ℕ) (x : Contents) (f : LoadFault) → Spells bytes x → HasLoadFault bytes f → ⊥

-- No bytes are without both a repository and a first fault.
abbrev pub OneOfBoth : Type 0
OneOfBoth = (bytes : List ℕ) → ((x : Contents) → Spells bytes x → ⊥) → ((f : LoadFault) → HasLoadFault bytes f → ⊥) → ⊥
