use Rattle.std.proofs.Common.{Some}
use Rattle.xml_instances.specs.Open.{IsUnusedAt}
use Rattle.xml_instances.specs.Verdicts.{IsVerdictJudge}
use Rattle.xml_instances.proofs.Spares.{set_one}
use Rattle.xml_instances.proofs.spare.Checks.put.Goals as goal

pub returns-clause-kept : goal.returns-clause-kept
returns-clause-kept c types h unused n check found = set_one (IsUnusedAt types) c.args.self.now.entries.items c.args.number (Some c.args.check) unused h n check found

pub returns-clause-lean : goal.returns-clause-lean
returns-clause-lean c h verdict n check found = set_one (λ _ j. IsVerdictJudge j) c.args.self.now.entries.items c.args.number (Some c.args.check) verdict h n check found
