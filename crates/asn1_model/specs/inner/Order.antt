-- Types in the order of their names, in memory.
use Rattle.std.specs.Prelude.{ℕ, suc, List, [], ◌∷◌}
use Rattle.message_model.specs.Tables.{TypeEntry}
use Rattle.asn1_model.specs.declared.order.NamedType.{NamedType}
use Rattle.asn1_model.specs.ModuleOf.{Numbered, insert_numbered}

abbrev pub numbered_type : NamedType → Numbered
numbered_type t = record { number = t.number; name = t.name.now }

-- the types by number, from this one on
abbrev pub numbered_from : ℕ → List TypeEntry → List Numbered
numbered_from k [] = []
numbered_from k (t ∷ ts) = record { number = k; name = t.name } ∷ numbered_from (suc k) ts

-- each put at its place, from the last
abbrev pub sorted_by_name : List Numbered → List Numbered
sorted_by_name [] = []
sorted_by_name (t ∷ ts) = insert_numbered t (sorted_by_name ts)
