use Rattle.std.proofs.Common.{◌≡◌, refl, rules}
use Rattle.lexical_core.specs.declared.rule.Rule.TheVariants.{Truncated}
use Rattle.message_model.specs.Tables.{message_of}
use Rattle.der_model.specs.Der.{der_of}
use Rattle.der_model.specs.DerMessage.{der_message}
use Rattle.xml_instances.specs.SpellsXml.{SpellsXml}
use Rattle.transcoder.specs.declared.trans_error.TransError.TheVariants as trans
use Rattle.transcoder.specs.Checked.{HasXmlFault}
use Rattle.transcoder.specs.Pulls.{PullsToTransFault}
use Rattle.transcoder.specs.TransErrors.{IsTransFaultOfSome}
use Rattle.transcoder.specs.Transcoding.{unread}
use Rattle.transcoder.proofs.Transcodings.{failed, transcoded, told_pulls, told_placed, tells_whole, no_source_failed}
use Rattle.transcoder.proofs.transcode.xml_to_der.Goals as goal

pub returns-in-Ok-clause-transcoded : goal.returns-in-Ok-clause-transcoded
returns-in-Ok-clause-transcoded g c =
    transcoded (SpellsXml (message_of c.args.model.now)) c.args.model.now (λ bytes v s. let is = s.instance in is.admitted) c.in-Ok.instance.region.pieces g.O.Sink.held g.O.Sink.faults g.O.Sink.room (HasXmlFault c.args.model.now) (λ v text. text ≡ der_of (der_message c.args.model.now) v) _ _ _ _ _
    c.in-Ok.ensures.ok c.in-Ok.ensures.given c.in-Ok.ensures.whole c.push_der.ensures

pub returns-in-Err-clause-transcoded : goal.returns-in-Err-clause-transcoded
returns-in-Err-clause-transcoded g c = unread c.in-Err.error (search rules) refl c.in-Err.ensures.refused

pub returns-in-Ok-clause-pulled : goal.returns-in-Ok-clause-pulled
returns-in-Ok-clause-pulled g c =
    tells_whole (SpellsXml (message_of c.args.model.now)) c.args.model.now (λ bytes v s. let is = s.instance in is.admitted) c.in-Ok.instance.region.pieces g.O.Sink.held g.O.Sink.faults g.O.Sink.room
    (PullsToTransFault (HasXmlFault c.args.model.now) Truncated (g.I.Source.left c.args.source.now) (g.I.Source.left c.read_xml.new.source)) tt tt (λ v text. text ≡ der_of (der_message c.args.model.now) v) _ _ c.push_der.result c.in-Ok.ensures.given c.push_der.ensures

pub returns-in-Err-clause-pulled : goal.returns-in-Err-clause-pulled
returns-in-Err-clause-pulled g c = told_pulls (HasXmlFault c.args.model.now) Truncated (g.I.Source.left c.args.source.now) (g.I.Source.left c.read_xml.new.source) c.in-Err.error _ c.from.ensures c.in-Err.ensures.pulled

pub returns-in-Ok-clause-same : goal.returns-in-Ok-clause-same
returns-in-Ok-clause-same g c other = c.read_xml.ensures.same (λ e. absurd (cc))

pub returns-in-Err-clause-same : goal.returns-in-Err-clause-same
returns-in-Err-clause-same g c other = c.read_xml.ensures.same (λ e. other (failed c.read_xml.result c.in-Err.error c.from.result c.in-Err.is c.from.ensures e))

pub returns-in-Ok-clause-placed : goal.returns-in-Ok-clause-placed
returns-in-Ok-clause-placed g c =
    tells_whole (SpellsXml (message_of c.args.model.now)) c.args.model.now (λ bytes v s. let is = s.instance in is.admitted) c.in-Ok.instance.region.pieces g.O.Sink.held g.O.Sink.faults g.O.Sink.room
    (IsTransFaultOfSome (HasXmlFault c.args.model.now)) tt tt (λ v text. text ≡ der_of (der_message c.args.model.now) v) _ _ c.push_der.result c.in-Ok.ensures.given c.push_der.ensures

pub returns-in-Err-clause-placed : goal.returns-in-Err-clause-placed
returns-in-Err-clause-placed g c = told_placed (HasXmlFault c.args.model.now) c.in-Err.error _ c.from.ensures c.in-Err.ensures.placed

pub returns-in-Ok-clause-fault : goal.returns-in-Ok-clause-fault
returns-in-Ok-clause-fault g c at = absurd (no_source_failed c.push_der.result
    (tells_whole (SpellsXml (message_of c.args.model.now)) c.args.model.now (λ bytes v s. let is = s.instance in is.admitted) c.in-Ok.instance.region.pieces g.O.Sink.held g.O.Sink.faults g.O.Sink.room
    (λ e. e ≡ trans.ReadFault → ⊥) (λ is. absurd (cc)) (λ is. absurd (cc)) (λ v text. text ≡ der_of (der_message c.args.model.now) v) _ _ c.push_der.result c.in-Ok.ensures.given c.push_der.ensures) at)
