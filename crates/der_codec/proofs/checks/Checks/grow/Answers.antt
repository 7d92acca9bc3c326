use Rattle.der_codec.proofs.KeptChecks.{pushed, pushed_there}
use Rattle.der_codec.proofs.checks.Checks.grow.Goals as goal

pub loop-at-preserved : goal.loop-at-preserved
loop-at-preserved c = (
  λ types h. pushed types c.loop-at.self.entries.items _ _ c.push.ensures.items (c.loop-at.invariant.0 types h),
  λ bytes n h. pushed_there bytes n c.loop-at.self.entries.items _ _ c.push.ensures.items (c.loop-at.invariant.1 bytes n h),
)

pub returns-then-is_err-clause-all : goal.returns-then-is_err-clause-all
returns-then-is_err-clause-all c = λ bytes n h. pushed_there bytes n c.loop-at.self.entries.items _ _ c.push.ensures.items (c.loop-at.invariant.1 bytes n h)
