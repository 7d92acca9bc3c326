-- What is kept of the names of the open elements.
use Rattle.std.specs.Prelude.{◌≡◌, ℕ, List, [], ◌∷◌, ◌++◌, length, map, reverse}
use Rattle.markup.specs.declared.tag.Spelled.{Spelled}
use Rattle.markup.specs.declared.open_names.NameSize.{NameSize}
use Rattle.markup.specs.declared.open_names.OpenNames.{OpenNames}

-- the name of an open element as its start tag spells it, and how many namespaces that tag declares
pub record OpenName : Type 0 where
  pub name : Spelled
  pub declared : ℕ

-- the bytes of a name without its colon
abbrev pub name_bytes : Spelled → List ℕ
name_bytes n = n.prefix ++ n.local

-- the bytes of these names, the outermost first; the names the innermost first
abbrev pub all_bytes : List OpenName → List ℕ
all_bytes [] = []
all_bytes (n ∷ outer) = all_bytes outer ++ name_bytes n.name

-- how many bytes the parts of a name have
abbrev pub name_size : OpenName → NameSize
name_size n = record { prefix = length n.name.prefix; local = length n.name.local; declared = n.declared }

-- These names are kept, the innermost first.
pub record KeepsNames (kept : OpenNames) (names : List OpenName) : Type 0 where
  pub bytes_are : kept.block ≡ all_bytes names
  pub sizes_are : reverse kept.sizes.items ≡ map name_size names

-- The first of the names has these parts.
abbrev pub IsInnermost : List ℕ → List ℕ → List OpenName → Type 0
IsInnermost prefix local [] = ⊥
IsInnermost prefix local (n ∷ outer) = n.name ≡ record { prefix = prefix; local = local }
