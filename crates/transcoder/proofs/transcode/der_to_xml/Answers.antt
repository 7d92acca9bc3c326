use Rattle.std.proofs.Common.{◌≡◌, refl, rules}
use Rattle.lexical_core.specs.declared.rule.Rule.TheVariants.{DerTruncated}
use Rattle.message_model.specs.Tables.{message_of}
use Rattle.der_model.specs.Der.{SpellsDer}
use Rattle.der_model.specs.DerMessage.{der_message}
use Rattle.xml_writer.specs.CanonXml.{IsCanonXml}
use Rattle.transcoder.specs.declared.trans_error.TransError.TheVariants as trans
use Rattle.transcoder.specs.Checked.{HasDerFault}
use Rattle.transcoder.specs.Pulls.{PullsToTransFault}
use Rattle.transcoder.specs.TransErrors.{IsTransFaultOfSome}
use Rattle.transcoder.specs.Transcoding.{unread}
use Rattle.transcoder.proofs.Transcodings.{failed, transcoded, told_pulls, told_placed, tells_whole, no_source_failed}
use Rattle.transcoder.proofs.transcode.der_to_xml.Goals as goal

pub returns-in-Ok-clause-transcoded : goal.returns-in-Ok-clause-transcoded
returns-in-Ok-clause-transcoded g c =
    transcoded (SpellsDer (der_message c.args.model.now)) c.args.model.now (λ bytes v s. s.0) c.in-Ok.instance.region.pieces g.O.Sink.held g.O.Sink.faults g.O.Sink.room (HasDerFault c.args.model.now) (IsCanonXml (message_of c.args.model.now)) _ _ _ _ _
    c.in-Ok.ensures.ok c.in-Ok.ensures.given c.in-Ok.ensures.whole c.push_xml.ensures

pub returns-in-Err-clause-transcoded : goal.returns-in-Err-clause-transcoded
returns-in-Err-clause-transcoded g c = unread c.in-Err.error (search rules) refl c.in-Err.ensures.refused

pub returns-in-Ok-clause-pulled : goal.returns-in-Ok-clause-pulled
returns-in-Ok-clause-pulled g c =
    tells_whole (SpellsDer (der_message c.args.model.now)) c.args.model.now (λ bytes v s. s.0) c.in-Ok.instance.region.pieces g.O.Sink.held g.O.Sink.faults g.O.Sink.room
    (PullsToTransFault (HasDerFault c.args.model.now) DerTruncated (g.I.Source.left c.args.source.now) (g.I.Source.left c.read_der.new.source)) tt tt (IsCanonXml (message_of c.args.model.now)) _ _ c.push_xml.result c.in-Ok.ensures.given c.push_xml.ensures

pub returns-in-Err-clause-pulled : goal.returns-in-Err-clause-pulled
returns-in-Err-clause-pulled g c = told_pulls (HasDerFault c.args.model.now) DerTruncated (g.I.Source.left c.args.source.now) (g.I.Source.left c.read_der.new.source) c.in-Err.error _ c.from.ensures c.in-Err.ensures.pulled

pub returns-in-Ok-clause-same : goal.returns-in-Ok-clause-same
returns-in-Ok-clause-same g c other = c.read_der.ensures.same (λ e. absurd (cc))

pub returns-in-Err-clause-same : goal.returns-in-Err-clause-same
returns-in-Err-clause-same g c other = c.read_der.ensures.same (λ e. other (failed c.read_der.result c.in-Err.error c.from.result c.in-Err.is c.from.ensures e))

pub returns-in-Ok-clause-placed : goal.returns-in-Ok-clause-placed
returns-in-Ok-clause-placed g c =
    tells_whole (SpellsDer (der_message c.args.model.now)) c.args.model.now (λ bytes v s. s.0) c.in-Ok.instance.region.pieces g.O.Sink.held g.O.Sink.faults g.O.Sink.room
    (IsTransFaultOfSome (HasDerFault c.args.model.now)) tt tt (IsCanonXml (message_of c.args.model.now)) _ _ c.push_xml.result c.in-Ok.ensures.given c.push_xml.ensures

pub returns-in-Err-clause-placed : goal.returns-in-Err-clause-placed
returns-in-Err-clause-placed g c = told_placed (HasDerFault c.args.model.now) c.in-Err.error _ c.from.ensures c.in-Err.ensures.placed

pub returns-in-Ok-clause-fault : goal.returns-in-Ok-clause-fault
returns-in-Ok-clause-fault g c at = absurd (no_source_failed c.push_xml.result
    (tells_whole (SpellsDer (der_message c.args.model.now)) c.args.model.now (λ bytes v s. s.0) c.in-Ok.instance.region.pieces g.O.Sink.held g.O.Sink.faults g.O.Sink.room
    (λ e. e ≡ trans.ReadFault → ⊥) (λ is. absurd (cc)) (λ is. absurd (cc)) (IsCanonXml (message_of c.args.model.now)) _ _ c.push_xml.result c.in-Ok.ensures.given c.push_xml.ensures) at)
