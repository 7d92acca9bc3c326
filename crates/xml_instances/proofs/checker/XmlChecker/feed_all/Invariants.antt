use Rattle.std.proofs.Common.{◌≡◌, ◌+◌, ℕ, List, length}
use Rattle.message_model.specs.declared.fault.InstanceError.TheVariants.{Memory}
use Rattle.xml_instances.specs.Checking.{HasFedXml, IsXmlCheckerFor, xml_bytes_fed}
use Rattle.xml_instances.specs.Scratch.{KeepsNoLeaf}
use Rattle.xml_instances.proofs.Checks.{FedSoFar}
use Rattle.xml_instances.proofs.checker.XmlChecker.feed_all.Given as goal

abbrev pub invariant-loop-rest : goal.invariant-loop-rest
invariant-loop-rest l = IsXmlCheckerFor l.self l.model × ((bytes : List ℕ) → HasFedXml l.initial.self l.model bytes → FedSoFar l.model l.self bytes l.piece l.rest) × (xml_bytes_fed l.self + length l.rest ≡ xml_bytes_fed l.initial.self + length l.piece) × (KeepsNoLeaf l.initial.self → KeepsNoLeaf l.self)
    × (l.stop ≡ Memory)

abbrev pub decreases-loop-rest : goal.decreases-loop-rest
decreases-loop-rest l = length l.rest
