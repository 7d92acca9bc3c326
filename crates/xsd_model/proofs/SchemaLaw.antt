-- The schema of a message admits exactly the trees that write a value of it.
use Rattle.std.proofs.Common.{◌≡◌, ◌↔◌, ℕ}
use Rattle.lexical_core.specs.Tree.{Tree}
use Rattle.data_types.specs.Value.{Value}
use Rattle.facets.specs.declared.simple.Simple.{Simple}
use Rattle.reference_check.specs.Forms.{Graph, form_to}
use Rattle.message_model.specs.Admits.{AdmitsAs}
use Rattle.message_model.specs.Writes.{WritesAs}
use Rattle.message_model.specs.Sound.{AreSound}
use Rattle.message_model.specs.Tables.{Tables, types_of, message_namespace}
use Rattle.xsd_model.specs.Trees.{IsValid}
use Rattle.xsd_model.specs.SchemaOf.{schema_of, schema_name_of, base_name, HasSoundNames}
use Rattle.xsd_model.proofs.Admitted.{valid_written, written_valid}
use Rattle.xsd_model.proofs.SchemaNames.{agrees}
use Rattle.xsd_model.proofs.Renamed.{written_alike}

module _ (tables : Tables) (t : Tree) (sound : HasSoundNames tables) (forms : AreSound (types_of tables)) where
  pub same_trees : IsValid (schema_of tables) t ↔ ((v : Value) × AdmitsAs (types_of tables) (types_of tables 0) v × WritesAs (types_of tables) (message_namespace tables) (types_of tables 0) v t)
  same_trees = (
    valid_written (types_of tables) (schema_name_of tables) (λ p. base_name (schema_name_of tables p)) (schema_of tables) (agrees tables sound forms) t sound.root,
    λ (v, admitted, written).
        written_valid (types_of tables) (schema_name_of tables) (λ p. base_name (schema_name_of tables p)) (schema_of tables) (agrees tables sound forms) t v sound.root admitted written,
  )

  -- the same of the types by any other names, as those of a repository
  module _ (P : Type 0) (types : Graph P Simple) (place : ℕ → P) (like : (number : ℕ) → types (place number) ≡ form_to place (λ s. s) (types_of tables number)) where
    pub same_trees_of : IsValid (schema_of tables) t ↔ ((v : Value) × AdmitsAs types (types (place 0)) v × WritesAs types (message_namespace tables) (types (place 0)) v t)
    same_trees_of = (there, back)
      where
        there : IsValid (schema_of tables) t → (v : Value) × AdmitsAs types (types (place 0)) v × WritesAs types (message_namespace tables) (types (place 0)) v t
        there h =
            let r = same_trees.0 h in
            let w = (written_alike (types_of tables) types place like (message_namespace tables) 0 r.0 t).0 (r.1, r.2) in
            (r.0, w.0, w.1)

        back : (v : Value) × AdmitsAs types (types (place 0)) v × WritesAs types (message_namespace tables) (types (place 0)) v t → IsValid (schema_of tables) t
        back (v, a, w) =
            (let b = (written_alike (types_of tables) types place like (message_namespace tables) 0 v t).1 (a, w) in same_trees.1 (v, b.0, b.1))
