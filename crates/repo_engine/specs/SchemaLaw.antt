-- What the schema of a message says of the bytes that are accepted.
use Rattle.std.specs.Prelude.{◌≡◌, ◌↔◌, ◌≤◌, ◌++◌, ℕ, true, List, [], length, reverse}
use Rattle.lexical_core.specs.Tree.{Tree, TreeIs}
use Rattle.data_types.specs.Value.{Value}
use Rattle.markup.specs.Token.{Token}
use Rattle.markup.specs.Marks.{Marks}
use Rattle.markup.specs.Faults.{IsClean, is_over}
use Rattle.repo_objects.specs.Repository.{Contents}
use Rattle.reference_check.specs.Graph.{document}
use Rattle.message_model.specs.Admits.{AdmitsAs}
use Rattle.message_model.specs.Compiled.{types}
use Rattle.message_model.specs.Tables.{Tables, namespace_front}
use Rattle.message_model.specs.Writes.{WritesAs}
use Rattle.xml_instances.specs.XmlFaults.{items}
use Rattle.xsd_model.specs.SchemaOf.{schema_of}
use Rattle.xsd_model.specs.Trees.{IsValid}
use Rattle.transcoder.specs.Limited.{most_bytes}
use Rattle.transcoder.specs.Checked.{IsAccepted}
use Rattle.repo_engine.specs.Answer.{GivesTables}

-- the bytes are XML of this tree: their tokens break no rule and close the root, and their events are those of the tree
pub record SpellsTree (bytes : List ℕ) (t : Tree) : Type 0 where
  pub tokens : List Token
  pub marks : Marks bytes tokens
  pub clean : IsClean [] tokens
  pub over : is_over (reverse tokens) ≡ true
  pub tree_is : TreeIs (items tokens) t

-- Bytes of at most the limit are accepted exactly where they are XML of a tree that the schema of the message admits.
abbrev pub SchemaAdmitsWhatIsAccepted : Type 0
SchemaAdmitsWhatIsAccepted = (R : Contents) (id : List ℕ) (T : Tables) (bytes : List ℕ) → GivesTables R id T → length bytes ≤ most_bytes
    → IsAccepted T bytes ↔ ((t : Tree) × SpellsTree bytes t × IsValid (schema_of T) t)

-- Any tree is one that the schema of the message admits exactly where it writes a value that the message admits.
abbrev pub SchemaAdmitsTheInstances : Type 0
SchemaAdmitsTheInstances = (R : Contents) (id : List ℕ) (T : Tables) (t : Tree) → GivesTables R id T
    → IsValid (schema_of T) t ↔ ((v : Value) × AdmitsAs (types R id) (types R id document) v × WritesAs (types R id) (namespace_front ++ id) (types R id document) v t)
