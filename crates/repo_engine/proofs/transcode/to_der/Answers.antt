use Rattle.std.proofs.Common.{refl, ap}
use Rattle.lexical_core.specs.declared.rule.Rule.TheVariants.{Truncated}
use Rattle.transcoder.specs.Checked.{IsDerOfXml, HasXmlFault}
use Rattle.repo_engine.specs.Answer.{FromXml, GivesDer}
use Rattle.repo_engine.specs.Steps.{refused, goes_on}
use Rattle.repo_engine.specs.Verdict.{accepted}
use Rattle.repo_engine.proofs.Transcodings.{tells_transcoded, goes_transcoded, words_transcoded, read_transcoded}
use Rattle.repo_engine.specs.Sources.{of_source}
use Rattle.repo_engine.proofs.Pulls.{trans_stops, xml_goes, der_given_goes}
use Rattle.repo_engine.proofs.transcode.to_der.Goals as goal

pub returns-clause-no_words : goal.returns-clause-no_words
returns-clause-no_words g c = rw c.ended_so.ensures (words_transcoded g.O.Sink.held g.O.Sink.faults g.O.Sink.room (IsDerOfXml c.args.model.now) (HasXmlFault c.args.model.now) _ _ _ _ c.xml_to_der.result c.xml_to_der.ensures.transcoded)

pub returns-clause-source : goal.returns-clause-source
returns-clause-source g c = rw c.ended_so.ensures (read_transcoded g.O.Sink.held g.O.Sink.faults g.O.Sink.room (IsDerOfXml c.args.model.now) (HasXmlFault c.args.model.now) _ _ _ _ c.xml_to_der.result _ refl c.xml_to_der.ensures.later c.xml_to_der.ensures.fault c.xml_to_der.ensures.same c.xml_to_der.ensures.transcoded)

pub returns-clause-verdict : goal.returns-clause-verdict
returns-clause-verdict g c i told = rw c.ended_so.ensures (tells_transcoded g.O.Sink.held g.O.Sink.faults g.O.Sink.room (IsDerOfXml c.args.model.now) (HasXmlFault c.args.model.now) _ _ _ _ c.xml_to_der.result (FromXml c.args.model.now i (GivesDer c.args.model.now)) i
    (λ fault h. refused (fault, h, refl)) (λ text k. goes_on k.0 (k.1, k.2) (ap accepted k.3)) told c.xml_to_der.ensures.transcoded)

pub returns-clause-goes_out : goal.returns-clause-goes_out
returns-clause-goes_out g c = rw c.ended_so.ensures (goes_transcoded g.O.Sink.held g.O.Sink.faults g.O.Sink.room (IsDerOfXml c.args.model.now) (HasXmlFault c.args.model.now) _ _ _ _ c.xml_to_der.result c.xml_to_der.ensures.transcoded)

pub returns-clause-pulled : goal.returns-clause-pulled
returns-clause-pulled g c = rw c.ended_so.ensures (trans_stops (λ i. FromXml c.args.model.now i (GivesDer c.args.model.now)) (of_source g.I.Source.left g.I.Source.faults c.args.inst.now c.xml_to_der.new.source) (HasXmlFault c.args.model.now) Truncated (xml_goes c.args.model.now (GivesDer c.args.model.now) (der_given_goes c.args.model.now)) c.xml_to_der.result c.xml_to_der.ensures.pulled)
