use Rattle.std.proofs.Common.{refl}
use Rattle.der_model.specs.Der.{der_of}
use Rattle.der_model.specs.DerMessage.{der_message}
use Rattle.drill.specs.BuiltIn.{drill_tables}
use Rattle.drill.specs.Growing.{instance}
use Rattle.drill.proofs.BothForms.{both_forms}
use Rattle.drill.proofs.laws.both_forms_come_back.Goals as goal

pub returns : goal.returns
returns c number size text small is =
    let forms = both_forms number size text (der_of (der_message drill_tables) (instance number size)) c.the_message_is_compiled.ensures c.instances_are_admitted.ensures c.their_xml_is_readable.ensures
    c.their_der_is_readable.ensures c.canonical_xml_of_a_message_spells_its_value.ensures small is refl in
    (forms.xml_spells, (forms.admitted, refl))
