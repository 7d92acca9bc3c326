use Rattle.std.proofs.Common.{codes, flat_map, ◌++◌, subst}
use Rattle.outside.specs.Pushes.{Pushes}
use Rattle.asn1_model.specs.ModuleText.{asn_type_text}
use Rattle.asn1_writer.proofs.writer.push_module.Goals as goal

pub returns : goal.returns
returns g c =
    let types = c.args.written.now.types in
    subst (λ name. Pushes g.O.Sink.held g.O.Sink.faults g.O.Sink.room c.args.sink.now c.push_named.new.sink c.push_named.result
    (name ++ (codes " DEFINITIONS AUTOMATIC TAGS ::= BEGIN\n\n" ++ (flat_map asn_type_text types ++ codes "END\n")))) c.bytes.ensures c.push_named.ensures
