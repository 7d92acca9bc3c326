-- The namespaces that are still to be declared, behind some that are, and their numbers.
use Rattle.std.specs.Prelude.{ℕ, ◌+◌, Bool, ◌&&◌, not, List, [], ◌∷◌, codes, if◌then◌else◌}
use Rattle.std.specs.Str.{bytes_eq}
use Rattle.lexical_core.specs.Tree.{Entry}
use Rattle.fragments.specs.Fragment.{Written, is_xml, needs_none, prefix_of}

-- the namespaces but the first, where that is the last declared
abbrev pub without : List ℕ → List (List ℕ) → List (List ℕ)
without last [] = []
without last (x ∷ xs) = if bytes_eq last x then xs else x ∷ xs

-- a namespace needs a declaration of its own
abbrev pub is_new : List ℕ → List ℕ → Bool
is_new last namespace = not (needs_none namespace) && not (bytes_eq namespace last)

-- the number of a namespace, behind one of the last, which has this number
abbrev pub number_behind : ℕ → List ℕ → List ℕ → ℕ
number_behind number last namespace = if is_new last namespace then number + 1 else number

-- the last namespace that needs a declaration of its own, of the last before and this one
abbrev pub later : List ℕ → List ℕ → List ℕ
later last namespace = if needs_none namespace then last else namespace

-- the prefix of an attribute, where the declaration of its namespace, if it needs one, has this number
abbrev pub numbered_prefix : ℕ → List ℕ → List ℕ
numbered_prefix number namespace = if bytes_eq namespace [] then [] else (if is_xml namespace then codes "xml" else prefix_of number)

-- an attribute with that prefix
abbrev pub numbered_attribute : ℕ → Entry → Written
numbered_attribute number e = record { name = record { prefix = numbered_prefix number e.name.namespace; local = e.name.local }; value = e.value }
