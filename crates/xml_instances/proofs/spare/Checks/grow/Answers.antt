use Rattle.xml_instances.specs.Open.{IsUnusedAt}
use Rattle.xml_instances.specs.Verdicts.{IsVerdictJudge}
use Rattle.xml_instances.proofs.Spares.{pushed}
use Rattle.xml_instances.proofs.spare.Checks.grow.Goals as goal

pub loop-at-init : goal.loop-at-init
loop-at-init c = ((λ types h. h), λ h. h)

pub loop-at-preserved : goal.loop-at-preserved
loop-at-preserved c = (
  (λ types h. pushed (IsUnusedAt types) c.loop-at.self.entries.items c.push.new.self.items _ c.push.ensures.items (c.loop-at.invariant.0 types h)),
  λ h. pushed (λ _ j. IsVerdictJudge j) c.loop-at.self.entries.items c.push.new.self.items _ c.push.ensures.items (c.loop-at.invariant.1 h),
)
