-- What is kept of the declarations of the open tags.
use Rattle.std.specs.Prelude.{◌≡◌, ℕ, Bool, List, [], ◌∷◌, length, reverse, Option, Some, None, if◌then◌else◌, unwrap_or}
use Rattle.std.specs.Global.{Vec}
use Rattle.std.specs.BTreeMap.{BTreeMap, get_by}
use Rattle.std.specs.Cmp.Lexicographic.{slice_cmp}
use Rattle.std.specs.Ordering.{nat_cmp}
use Rattle.markup.specs.declared.tag.Given.{Given}
use Rattle.markup.specs.declared.open_bindings.Binding.{Binding}
use Rattle.markup.specs.declared.bindings.Bindings.{Bindings}
use Rattle.markup.specs.Events.{declared_prefix, same_prefix}

-- It declares the prefix.
abbrev pub declares : List ℕ → Given → Bool
declares prefix d = same_prefix (declared_prefix d.name) prefix

-- the place of the first of these declarations that declares the prefix; the last one has the place 0
abbrev pub place_declared : List Given → List ℕ → Option ℕ
place_declared [] prefix = None
place_declared (d ∷ before) prefix = if declares prefix d then Some (length before) else place_declared before prefix

-- the prefix that it declares
abbrev pub prefix_declared : Given → List ℕ
prefix_declared d = unwrap_or (declared_prefix d.name) []

-- what is kept of a declaration behind those before
abbrev pub binding : Given → List Given → Binding
binding d before = record { prefix = prefix_declared d; namespace = d.value; former = place_declared before (prefix_declared d) }

-- what is kept of these declarations, the latest first
abbrev pub bindings : List Given → List Binding
bindings [] = []
bindings (d ∷ before) = binding d before ∷ bindings before

-- the place that is found under the prefix
abbrev pub place_in : BTreeMap (Vec ℕ) ℕ → List ℕ → Option ℕ
place_in places prefix = get_by (λ k. slice_cmp nat_cmp prefix k.items) places

-- These declarations are open, the latest first.
pub record Binds (kept : Bindings) (declared : List Given) : Type 0 where
  pub open_are : reverse kept.open ≡ bindings declared
  pub latest_are : (prefix : List ℕ) → place_in kept.latest prefix ≡ place_declared declared prefix
