-- What gives a prefix its namespace.
use Rattle.std.specs.Prelude.{ℕ, List, [], get_or}
use Rattle.lexical_core.specs.Names.{xml_namespace}
use Rattle.markup.specs.declared.bindings.Bindings.{Bindings}
use Rattle.markup.specs.declared.origin.Origin.{Origin}
use Rattle.markup.specs.declared.origin.Origin.TheVariants.{Nothing, Xml, Declared}
use Rattle.markup.specs.inner.Ranks.{no_binding}

-- the namespace of the declaration at the place, the empty one where there is none
abbrev pub declared_namespace : Bindings → ℕ → List ℕ
declared_namespace kept place = (get_or kept.open place no_binding).namespace

-- the namespace that comes from there
abbrev pub namespace_from : Bindings → Origin → List ℕ
namespace_from kept Nothing = []
namespace_from kept Xml = xml_namespace
namespace_from kept (Declared place) = declared_namespace kept place
