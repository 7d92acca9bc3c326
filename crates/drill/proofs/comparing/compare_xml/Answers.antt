use Rattle.message_model.specs.Tables.{message_of}
use Rattle.drill.proofs.comparing.compare_xml.Goals as goal

pub compare-requires : goal.compare-requires
compare-requires c =
    let given = c.requires in
    c.a_value_has_one_canonical_xml.ensures (message_of c.args.model.now) given.0 _ _ (c.in_ok-again.ensures given.0 (given.1.admitted, given.1.der_is)) given.1.xml_is
