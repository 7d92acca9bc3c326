-- One more identifier.
use Rattle.std.proofs.Common.{ap, ◌∙◌}
use Rattle.lexical_core.proofs.Lists.{mapped_more}
use Rattle.asn1_model.specs.Names.{asn_identifier}
use Rattle.asn1_model.proofs.shapes.identifiers.Goals as goal

pub loop-at-preserved : goal.loop-at-preserved
loop-at-preserved c =
    mapped_more asn_identifier c.args.codes.now c.loop-at.at c.in-Some.code.now c.loop-at.names.items c.push.new.self.items c.from_vec.result
    c.in-Some.ensures c.loop-at.invariant (c.from_vec.ensures ∙ c.in_ok-identifier.ensures ∙ ap asn_identifier c.bytes.ensures) c.in_ok-push.ensures.items
