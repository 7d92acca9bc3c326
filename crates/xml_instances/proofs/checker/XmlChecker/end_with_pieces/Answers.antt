use Rattle.std.proofs.Common.{subst}
use Rattle.xml_instances.specs.XmlFaults.{items_told}
use Rattle.xml_instances.specs.Keeping.{AreKeptPieces}
use Rattle.xml_instances.specs.declared.content.Content.{Content}
use Rattle.xml_instances.proofs.ReadPieces.{pieces_read}
use Rattle.xml_instances.proofs.checker.XmlChecker.end_with_pieces.Goals as goal

pub returns-in-Some-clause-ok : goal.returns-in-Some-clause-ok
returns-in-Some-clause-ok c bytes h =
    pieces_read c.args.model.now bytes (items_told h.told) c.args.self.now.content.pieces c.in-Some.instance.region.pieces c.pieces_are_shown.ensures c.type_count.ensures.sound c.type_count.ensures.sorted h.built
    (c.in-Ok.ensures.spelled_by bytes h) (subst (λ (x : Content). AreKeptPieces x.pieces c.in-Some.instance.region.pieces) c.in-Ok.ensures.content c.in-Some.ensures)
