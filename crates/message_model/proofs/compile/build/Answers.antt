use Rattle.std.proofs.Common.{map, refl}
use Rattle.message_model.specs.Compiled.{Compiles}
use Rattle.message_model.specs.inner.Numbers.{ids_at}
use Rattle.message_model.specs.Tables.{Tables}
use Rattle.message_model.specs.Views.{tables_from, type_entry}
use Rattle.message_model.proofs.Compilable.{reached_list}
use Rattle.message_model.proofs.SoundTables.{compiles, tables_sound, tables_codes, tables_sorted, tables_root, tables_linked, kept_few}
use Rattle.message_model.proofs.compile.build.Goals as goal

pub invariant_of-result : goal.invariant_of-result
invariant_of-result c =
    let R = c.args.repository.now in
    let m = c.args.id.now in
    let r = c.args.reached.now in
    let T : Tables = tables_from c.args.id.now (map type_entry c.in_ok-all_types.field-0.items) in
    let ids = ids_at c.args.repository.now.objects c.args.reached.now.objects in
    let list = reached_list R m c.requires.ready c.in_ok-all_types.ensures.whole r c.requires.reached in
    let made : Compiles R m ids T = compiles R m c.args.reached.now.objects T refl (c.in_ok-all_types.ensures.types m c.requires.reached c.requires.ready) in (
      tables_sound R m c.requires.ready ids list T made,
      tables_codes R m c.requires.ready ids list T made,
      tables_sorted R m c.requires.ready ids list T made,
      tables_root R m c.requires.ready ids list T made,
      tables_linked R m c.requires.ready ids list T made,
      kept_few R m c.requires.ready ids list c.in_ok-all_types.field-0.items made,
    )

pub returns : goal.returns
returns c =
    let R = c.args.repository.now in
    let m = c.args.id.now in
    let r = c.args.reached.now in (
      ids_at c.args.repository.now.objects c.args.reached.now.objects,
      reached_list R m c.requires.ready c.in_ok-all_types.ensures.whole r c.requires.reached,
      compiles R m c.args.reached.now.objects _ refl (c.in_ok-all_types.ensures.types m c.requires.reached c.requires.ready),
    )
