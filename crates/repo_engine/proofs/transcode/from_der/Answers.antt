use Rattle.std.proofs.Common.{refl}
use Rattle.lexical_core.specs.declared.rule.Rule.TheVariants.{DerTruncated}
use Rattle.transcoder.specs.Checked.{IsXmlOfDer, HasDerFault}
use Rattle.repo_engine.specs.Answer.{FromDer, GivesXml}
use Rattle.repo_engine.specs.Steps.{refused, goes_on}
use Rattle.repo_engine.proofs.Transcodings.{tells_transcoded, goes_transcoded, words_transcoded, read_transcoded}
use Rattle.repo_engine.specs.Sources.{of_source}
use Rattle.repo_engine.proofs.Pulls.{trans_stops, der_goes, xml_given_goes}
use Rattle.repo_engine.proofs.transcode.from_der.Goals as goal

pub returns-clause-no_words : goal.returns-clause-no_words
returns-clause-no_words g c = rw c.ended_so.ensures (words_transcoded g.O.Sink.held g.O.Sink.faults g.O.Sink.room (IsXmlOfDer c.args.model.now) (HasDerFault c.args.model.now) _ _ _ _ c.der_to_xml.result c.der_to_xml.ensures.transcoded)

pub returns-clause-source : goal.returns-clause-source
returns-clause-source g c = rw c.ended_so.ensures (read_transcoded g.O.Sink.held g.O.Sink.faults g.O.Sink.room (IsXmlOfDer c.args.model.now) (HasDerFault c.args.model.now) _ _ _ _ c.der_to_xml.result _ refl c.der_to_xml.ensures.later c.der_to_xml.ensures.fault c.der_to_xml.ensures.same c.der_to_xml.ensures.transcoded)

pub returns-clause-verdict : goal.returns-clause-verdict
returns-clause-verdict g c i told = rw c.ended_so.ensures (tells_transcoded g.O.Sink.held g.O.Sink.faults g.O.Sink.room (IsXmlOfDer c.args.model.now) (HasDerFault c.args.model.now) _ _ _ _ c.der_to_xml.result (FromDer c.args.model.now i (GivesXml c.args.model.now)) i
    (λ fault h. refused (fault, h, refl)) (λ text k. goes_on k.0 (k.1, k.2) (text, k.3, refl)) told c.der_to_xml.ensures.transcoded)

pub returns-clause-goes_out : goal.returns-clause-goes_out
returns-clause-goes_out g c = rw c.ended_so.ensures (goes_transcoded g.O.Sink.held g.O.Sink.faults g.O.Sink.room (IsXmlOfDer c.args.model.now) (HasDerFault c.args.model.now) _ _ _ _ c.der_to_xml.result c.der_to_xml.ensures.transcoded)

pub returns-clause-pulled : goal.returns-clause-pulled
returns-clause-pulled g c = rw c.ended_so.ensures (trans_stops (λ i. FromDer c.args.model.now i (GivesXml c.args.model.now)) (of_source g.I.Source.left g.I.Source.faults c.args.inst.now c.der_to_xml.new.source) (HasDerFault c.args.model.now) DerTruncated (der_goes c.args.model.now (GivesXml c.args.model.now) (xml_given_goes c.args.model.now)) c.der_to_xml.result c.der_to_xml.ensures.pulled)
