use Rattle.std.proofs.Common.{◌≡◌, true, refl}
use Rattle.repo_engine.specs.Answer.{IsVerdictOfVerb}
use Rattle.repo_engine.specs.inner.Arms.{unread, read}
use Rattle.repo_engine.specs.Command.{reads_instance}
use Rattle.repo_engine.specs.Sources.{of_source}
use Rattle.repo_engine.proofs.Pulls.{unrefused}
use Rattle.repo_engine.proofs.message.on_model.Goals as goal

pub returns-in-Types-clause-source : goal.returns-in-Types-clause-source
returns-in-Types-clause-source g c = rw c.in-Types.is (unread refl c.give_types.ensures.ends.0 c.give_types.ensures.ends.1 refl)

pub returns-in-Types-clause-verdict : goal.returns-in-Types-clause-verdict
returns-in-Types-clause-verdict g c i told = rw c.in-Types.is c.give_types.ensures.verdict

pub returns-in-Xsd-clause-source : goal.returns-in-Xsd-clause-source
returns-in-Xsd-clause-source g c = rw c.in-Xsd.is (unread refl c.give_schema.ensures.ends.0 c.give_schema.ensures.ends.1 refl)

pub returns-in-Xsd-clause-verdict : goal.returns-in-Xsd-clause-verdict
returns-in-Xsd-clause-verdict g c i told = rw c.in-Xsd.is c.give_schema.ensures.verdict

pub returns-in-Asn1-clause-source : goal.returns-in-Asn1-clause-source
returns-in-Asn1-clause-source g c = rw c.in-Asn1.is (unread refl c.give_module.ensures.ends.0 c.give_module.ensures.ends.1 refl)

pub returns-in-Asn1-clause-verdict : goal.returns-in-Asn1-clause-verdict
returns-in-Asn1-clause-verdict g c i told = rw c.in-Asn1.is c.give_module.ensures.verdict

pub returns-in-CheckXml-clause-source : goal.returns-in-CheckXml-clause-source
returns-in-CheckXml-clause-source g c = rw c.in-CheckXml.is (read refl c.check.ensures.source)

pub returns-in-CheckXml-clause-verdict : goal.returns-in-CheckXml-clause-verdict
returns-in-CheckXml-clause-verdict g c i told =
    let reads : reads_instance c.args.verb ≡ true = rw c.in-CheckXml.is refl in
    rw c.in-CheckXml.is (c.check.ensures.verdict i (told reads))

pub returns-in-CheckDer-clause-source : goal.returns-in-CheckDer-clause-source
returns-in-CheckDer-clause-source g c = rw c.in-CheckDer.is (read refl c.check_in_der.ensures.source)

pub returns-in-CheckDer-clause-verdict : goal.returns-in-CheckDer-clause-verdict
returns-in-CheckDer-clause-verdict g c i told =
    let reads : reads_instance c.args.verb ≡ true = rw c.in-CheckDer.is refl in
    rw c.in-CheckDer.is (c.check_in_der.ensures.verdict i (told reads))

pub returns-in-CanonXml-clause-source : goal.returns-in-CanonXml-clause-source
returns-in-CanonXml-clause-source g c = rw c.in-CanonXml.is (read refl c.canonize.ensures.source)

pub returns-in-CanonXml-clause-verdict : goal.returns-in-CanonXml-clause-verdict
returns-in-CanonXml-clause-verdict g c i told =
    let reads : reads_instance c.args.verb ≡ true = rw c.in-CanonXml.is refl in
    rw c.in-CanonXml.is (c.canonize.ensures.verdict i (told reads))

pub returns-in-XmlToDer-clause-source : goal.returns-in-XmlToDer-clause-source
returns-in-XmlToDer-clause-source g c = rw c.in-XmlToDer.is (read refl c.to_der.ensures.source)

pub returns-in-XmlToDer-clause-verdict : goal.returns-in-XmlToDer-clause-verdict
returns-in-XmlToDer-clause-verdict g c i told =
    let reads : reads_instance c.args.verb ≡ true = rw c.in-XmlToDer.is refl in
    rw c.in-XmlToDer.is (c.to_der.ensures.verdict i (told reads))

pub returns-in-DerToXml-clause-source : goal.returns-in-DerToXml-clause-source
returns-in-DerToXml-clause-source g c = rw c.in-DerToXml.is (read refl c.from_der.ensures.source)

pub returns-in-DerToXml-clause-verdict : goal.returns-in-DerToXml-clause-verdict
returns-in-DerToXml-clause-verdict g c i told =
    let reads : reads_instance c.args.verb ≡ true = rw c.in-DerToXml.is refl in
    rw c.in-DerToXml.is (c.from_der.ensures.verdict i (told reads))

pub returns-in-Types-clause-pulled : goal.returns-in-Types-clause-pulled
returns-in-Types-clause-pulled g c = unrefused (λ i. IsVerdictOfVerb c.args.verb i c.args.model.now) (of_source g.I.Source.left g.I.Source.faults c.args.inst.now c.args.inst.now) c.give_types.result c.give_types.ensures.ends.0 c.give_types.ensures.ends.1

pub returns-in-Xsd-clause-pulled : goal.returns-in-Xsd-clause-pulled
returns-in-Xsd-clause-pulled g c = unrefused (λ i. IsVerdictOfVerb c.args.verb i c.args.model.now) (of_source g.I.Source.left g.I.Source.faults c.args.inst.now c.args.inst.now) c.give_schema.result c.give_schema.ensures.ends.0 c.give_schema.ensures.ends.1

pub returns-in-Asn1-clause-pulled : goal.returns-in-Asn1-clause-pulled
returns-in-Asn1-clause-pulled g c = unrefused (λ i. IsVerdictOfVerb c.args.verb i c.args.model.now) (of_source g.I.Source.left g.I.Source.faults c.args.inst.now c.args.inst.now) c.give_module.result c.give_module.ensures.ends.0 c.give_module.ensures.ends.1

pub returns-in-CheckXml-clause-pulled : goal.returns-in-CheckXml-clause-pulled
returns-in-CheckXml-clause-pulled g c = rw c.in-CheckXml.is c.check.ensures.pulled

pub returns-in-CheckDer-clause-pulled : goal.returns-in-CheckDer-clause-pulled
returns-in-CheckDer-clause-pulled g c = rw c.in-CheckDer.is c.check_in_der.ensures.pulled

pub returns-in-CanonXml-clause-pulled : goal.returns-in-CanonXml-clause-pulled
returns-in-CanonXml-clause-pulled g c = rw c.in-CanonXml.is c.canonize.ensures.pulled

pub returns-in-XmlToDer-clause-pulled : goal.returns-in-XmlToDer-clause-pulled
returns-in-XmlToDer-clause-pulled g c = rw c.in-XmlToDer.is c.to_der.ensures.pulled

pub returns-in-DerToXml-clause-pulled : goal.returns-in-DerToXml-clause-pulled
returns-in-DerToXml-clause-pulled g c = rw c.in-DerToXml.is c.from_der.ensures.pulled
