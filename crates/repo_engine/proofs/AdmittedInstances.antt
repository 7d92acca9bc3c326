-- The bytes that are accepted are XML of the trees that the schema admits.
use Rattle.lexical_core.specs.Tree.{Tree}
use Rattle.message_model.proofs.SoundTables.{tables_sound}
use Rattle.xsd_model.specs.SchemaOf.{schema_of}
use Rattle.xsd_model.specs.Trees.{IsValid}
use Rattle.xsd_model.proofs.ReadySchema.{sound_names}
use Rattle.xsd_model.proofs.SchemaLaw.{same_trees}
use Rattle.transcoder.specs.Checked.{IsAccepted}
use Rattle.repo_engine.specs.SchemaLaw.{SpellsTree, SchemaAdmitsWhatIsAccepted}

pub schema_admits_what_is_accepted : SchemaAdmitsWhatIsAccepted
schema_admits_what_is_accepted R id T bytes (ready, (ids, reached, made)) short = (there, back)
  where
    there : IsAccepted T bytes → (t : Tree) × SpellsTree bytes t × IsValid (schema_of T) t
    there ((v, s), within) = (
      s.tree,
      record { tokens = s.tokens; marks = s.marks; clean = s.clean; over = s.over; tree_is = s.tree_is },
      (same_trees T s.tree (sound_names R id ready ids reached T made) (tables_sound R id ready ids reached T made)).1 (v, s.instance.admitted, s.instance.written),
    )

    back : (t : Tree) × SpellsTree bytes t × IsValid (schema_of T) t → IsAccepted T bytes
    back (t, s, valid) =
        let w = (same_trees T t (sound_names R id ready ids reached T made) (tables_sound R id ready ids reached T made)).0 valid in
        ((w.0, record { tokens = s.tokens; marks = s.marks; clean = s.clean; over = s.over; tree = t; tree_is = s.tree_is; instance = record { admitted = w.1; written = w.2 } }), short)
