-- Which of the places that are asked has a schema type name last.
use Rattle.std.specs.Prelude.{ℕ, ◌≤◌, List, Option, Some, None, Contains}
use Rattle.std.specs.Global.{Vec}
use Rattle.std.specs.HashMap.{HashMap, get_by}
use Rattle.std.specs.Str.{bytes_eq}
use Rattle.repo_objects.specs.declared.objects.Object.{Object}
use Rattle.repo_objects.specs.Repository.{Contents}
use Rattle.reference_check.specs.inner.Ranks.{place_at}
use Rattle.reference_check.specs.Reach.{kind_currency}
use Rattle.reference_check.specs.Rules.{schema_names, with_currency}

-- the owner of a name
abbrev pub owner_of : {S : Type 0} → HashMap (Vec ℕ) ℕ S → List ℕ → Option ℕ
owner_of owners name = get_by (λ k. bytes_eq name k.items) owners

-- the place of that rank has the name in a schema
abbrev pub HasName : Contents → List ℕ → List ℕ → ℕ → Type 0
HasName R m name k = Contains (schema_names R m (place_at R k)) name

-- of the places of these ranks none has the name, or this one last
abbrev pub IsLastOwner : Contents → List ℕ → List ℕ → List ℕ → Option ℕ → Type 0
IsLastOwner R m ks name None = (k : ℕ) → Contains ks k → HasName R m name k → ⊥
IsLastOwner R m ks name (Some k) = Contains ks k × HasName R m name k × ((j : ℕ) → Contains ks j → HasName R m name j → j ≤ k)

abbrev pub OwnersAre : Contents → List ℕ → List ℕ → (List ℕ → Option ℕ) → Type 0
OwnersAre R m ks owner = (name : List ℕ) → IsLastOwner R m ks name (owner name)

-- the names of an object's types
abbrev pub object_type_names : Object → List (List ℕ)
object_type_names o = with_currency o.name (kind_currency o.kind o.currency)
