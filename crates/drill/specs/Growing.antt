-- How the instance of a drill grows from two numbers.
use Rattle.std.specs.Prelude.{ℕ, zero, suc, ◌%◌, List, [], ◌∷◌, ◌++◌, length, max, codes}
use Rattle.std.specs.Fmt.{decimal}
use Rattle.rand_core.specs.Pcg32Seed.{pcg32_seed}
use Rattle.rand_pcg.specs.Lcg.{Lcg}
use Rattle.rand_pcg.specs.Pcg.{pcg32, pcg32_of_seed}
use Rattle.data_types.specs.Leaf.{Bytes}
use Rattle.data_types.specs.Value.{Value, Component, Simple, Children, Nothing, Child}

-- the most nodes beside the first
abbrev pub most_beside : ℕ
most_beside = 1000000

-- the name of a node by its number
abbrev pub node_name : ℕ → List ℕ
node_name number = codes "n" ++ decimal number

-- the nodes below one, each in slot 1
abbrev pub below : List Value → Children
below [] = Nothing
below (v ∷ vs) = Child 1 v (below vs)

-- a node: its name in slot 0, and the nodes below it
abbrev pub node : ℕ → List Value → Value
node number values = Component (Child 0 (Simple (Bytes (node_name number))) (below values))

-- a node that is open: its number, and the nodes below it so far
pub record OpenNode : Type 0 where
  pub number : ℕ
  pub values : List Value

abbrev pub open_node : ℕ → OpenNode
open_node number = record { number = number; values = [] }

-- a node closes below one that is open
abbrev pub with_below : OpenNode → OpenNode → OpenNode
with_below outer inner = record outer { values = outer.values ++ node inner.number inner.values ∷ [] }

-- the innermost open node, and those round it, from within
pub record Path : Type 0 where
  pub inner : OpenNode
  pub outers : List OpenNode

-- how many nodes are open
abbrev pub path_depth : Path → ℕ
path_depth p = suc (length p.outers)

-- the innermost is left, but not the last that is open
abbrev pub path_outside_from : OpenNode → List OpenNode → Path
path_outside_from inner [] = record { inner = inner; outers = [] }
path_outside_from inner (outer ∷ outers) = record { inner = with_below outer inner; outers = outers }

abbrev pub path_outside : Path → Path
path_outside p = path_outside_from p.inner p.outers

abbrev pub path_after : ℕ → Path → Path
path_after zero p = p
path_after (suc n) p = path_after n (path_outside p)

-- a node opens below the innermost
abbrev pub path_under : ℕ → Path → Path
path_under number p = record { inner = open_node number; outers = p.inner ∷ p.outers }

-- what has grown: the open nodes, the greatest depth so far, and the generator of words
pub record Growth : Type 0 where
  pub path : Path
  pub deepest : ℕ
  pub generator : Lcg

-- node 0 is open
abbrev pub first_growth : Lcg → Growth
first_growth generator = record { path = record { inner = open_node 0; outers = [] }; deepest = 1; generator = generator }

-- the next word says how many nodes are left before the next opens
abbrev pub next_growth : ℕ → Growth → Growth
next_growth number g =
    let path = path_under number (path_after ((pcg32 g.generator).0 % 3) g.path) in
    record { path = path; deepest = max g.deepest (path_depth path); generator = (pcg32 g.generator).1 }

-- so many nodes have opened beside node 0
abbrev pub growth_of : ℕ → Lcg → Growth
growth_of zero generator = first_growth generator
growth_of (suc size) generator = next_growth (suc size) (growth_of size generator)

-- the generator that a number makes
abbrev pub generator_of : ℕ → Lcg
generator_of number = pcg32_of_seed (pcg32_seed 16 number)

-- all open nodes close
abbrev pub tree_of_from : OpenNode → List OpenNode → Value
tree_of_from inner [] = node inner.number inner.values
tree_of_from inner (outer ∷ outers) = tree_of_from (with_below outer inner) outers

abbrev pub tree_of : Path → Value
tree_of p = tree_of_from p.inner p.outers

-- the value of a message, `Document` round its element, with the nodes
abbrev pub document : Value → Value
document tree = Component (Child 0 (Component (Child 0 tree Nothing)) Nothing)

-- the instance of two numbers, with so many nodes beside the first
abbrev pub instance : ℕ → ℕ → Value
instance number size = document (tree_of (growth_of size (generator_of number)).path)

-- the greatest number of nodes, one in the other
abbrev pub deepest : ℕ → ℕ → ℕ
deepest number size = (growth_of size (generator_of number)).deepest
