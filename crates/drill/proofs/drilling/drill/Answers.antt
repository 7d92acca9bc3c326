use Rattle.std.proofs.Common.{◌≡◌, refl, sym, ap, ◌∙◌, subst, length}
use Rattle.fragments.specs.Fragment.{fragment}
use Rattle.message_model.specs.Tables.{message_of, pieces_of}
use Rattle.der_model.specs.Der.{der_of}
use Rattle.der_model.specs.DerMessage.{der_message}
use Rattle.xml_writer.specs.CanonXml.{IsCanonXml}
use Rattle.drill.specs.BuiltIn.{drill_tables}
use Rattle.drill.specs.inner.Forms.{AreForms}
use Rattle.drill.specs.Growing.{instance}
use Rattle.drill.proofs.BothForms.{admitted_by, both_forms}
use Rattle.drill.proofs.drilling.drill.Goals as goal

pub write_both-requires : goal.write_both-requires
write_both-requires c =
    let v = instance c.args.number c.args.size in
    let admitted = admitted_by c.in_ok-model.model c.args.number c.args.size c.in_ok-model.ensures c.instances_are_admitted.ensures c.requires in
    (v, admitted, subst (λ T. c.in_ok-grown.grown.instance.region.pieces ≡ pieces_of fragment T v) (sym c.in_ok-model.ensures) c.in_ok-grown.ensures.0)

pub compare_both-requires : goal.compare_both-requires
compare_both-requires c =
    let v = instance c.args.number c.args.size in
    let admitted = admitted_by c.in_ok-model.model c.args.number c.args.size c.in_ok-model.ensures c.instances_are_admitted.ensures c.requires in
    let written = c.in_ok-written.ensures v admitted (subst (λ T. c.in_ok-grown.grown.instance.region.pieces ≡ pieces_of fragment T v) (sym c.in_ok-model.ensures) c.in_ok-grown.ensures.0) in
    let xml = subst (λ T. IsCanonXml (message_of T) v c.in_ok-written.written.xml.held) c.in_ok-model.ensures written.0 in
    let der = written.1 ∙ ap (λ T. der_of (der_message T) v) c.in_ok-model.ensures in (
      v,
      subst (λ T. AreForms T v c.bytes.result.now c.bytes-2.result.now) (sym c.in_ok-model.ensures)
          (both_forms c.args.number c.args.size c.bytes.result.now c.bytes-2.result.now c.the_message_is_compiled.ensures c.instances_are_admitted.ensures c.their_xml_is_readable.ensures c.their_der_is_readable.ensures
          c.canonical_xml_of_a_message_spells_its_value.ensures c.requires (subst (λ l. IsCanonXml (message_of drill_tables) v l) (sym c.bytes.ensures) xml) (c.bytes-2.ensures ∙ der)),
    )

pub returns : goal.returns
returns c =
    let v = instance c.args.number c.args.size in
    let admitted = admitted_by c.in_ok-model.model c.args.number c.args.size c.in_ok-model.ensures c.instances_are_admitted.ensures c.requires in
    let written = c.in_ok-written.ensures v admitted (subst (λ T. c.in_ok-grown.grown.instance.region.pieces ≡ pieces_of fragment T v) (sym c.in_ok-model.ensures) c.in_ok-grown.ensures.0) in
    record {
      nodes = refl;
      depth = c.in_ok-grown.ensures.1;
      xml = (c.in_ok-written.written.xml.held, subst (λ T. IsCanonXml (message_of T) v c.in_ok-written.written.xml.held) c.in_ok-model.ensures written.0, ap length c.bytes-3.ensures);
      der = ap length (c.bytes-4.ensures ∙ (written.1 ∙ ap (λ T. der_of (der_message T) v) c.in_ok-model.ensures));
    }
