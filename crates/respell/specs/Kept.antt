-- What a respeller keeps.
use Rattle.std.specs.Prelude.{◌≡◌, ℕ, Bool, true, false, List, [], ◌∷◌, map, reverse, Option, Some, ◌++◌}
use Rattle.lexical_core.specs.Tree.{Expanded, Item}
use Rattle.markup.specs.PlainTags.{open_after}
use Rattle.respell.specs.Respelling.{nearest, respelled_text, defaults_behind}
use Rattle.respell.specs.declared.respell.Respell.{Respell}

-- the declared defaults and whether each open element declares one, both the innermost first, stand for these defaults
abbrev pub KeepsDefaults : List (List ℕ) → List Bool → List (Option (List ℕ)) → Type 0
KeepsDefaults declared [] [] = declared ≡ []
KeepsDefaults declared (true ∷ flags) (default ∷ defaults) = (n : List ℕ) × (outer : List (List ℕ)) × (declared ≡ n ∷ outer) × (default ≡ Some n) × KeepsDefaults outer flags defaults
KeepsDefaults declared (false ∷ flags) (default ∷ defaults) = (default ≡ nearest defaults) × KeepsDefaults declared flags defaults
KeepsDefaults declared flags defaults = ⊥

-- A respeller keeps these defaults within the open elements.
abbrev pub HasDefaults : Respell → List (Option (List ℕ)) → Type 0
HasDefaults r defaults = KeepsDefaults (reverse r.defaults.items) (reverse r.declares.items) defaults

-- the names of the elements that are open behind events, the innermost first
abbrev pub opened_by : List Expanded → List Item → List Expanded
opened_by names [] = names
opened_by names (item ∷ items) = opened_by (open_after names item) items

-- the defaults within these elements, where each is its own namespace
abbrev pub own_defaults : List Expanded → List (Option (List ℕ))
own_defaults names = map (λ (n : Expanded). Some n.namespace) names

-- This is the default namespace so far, that within the innermost open element.
abbrev pub IsInDefault : Respell → List ℕ → Type 0
IsInDefault r namespace = (outer : List (List ℕ)) × (r.defaults.items ≡ outer ++ namespace ∷ [])

-- These events were taken, and of their text this front was forgotten.
pub record HasWritten (r : Respell) (forgotten : List ℕ) (items : List Item) : Type 0 where
  pub sound : r.failed ≡ false
  pub text_is : forgotten ++ r.text ≡ respelled_text [] items
  pub defaults_are : HasDefaults r (defaults_behind [] items)
  pub own_are : r.prefixed ≡ false → defaults_behind [] items ≡ own_defaults (opened_by [] items)

-- These events were taken.
abbrev pub HasTakenItems : Respell → List Item → Type 0
HasTakenItems r items = HasWritten r [] items
