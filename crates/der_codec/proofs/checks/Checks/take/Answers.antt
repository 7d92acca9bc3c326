use Rattle.std.proofs.Common.{rules}
use Rattle.der_codec.proofs.KeptChecks.{taken_at, found_roomy, set_other, there_within}
use Rattle.der_codec.proofs.checks.Checks.take.Goals as goal

pub returns-then-at-len-clause-made : goal.returns-then-at-len-clause-made
returns-then-at-len-clause-made c types h = taken_at types c.args.self.now.entries.items c.args.number c.take.result h (search rules) (search rules)

pub returns-then-at-len-clause-there : goal.returns-then-at-len-clause-there
returns-then-at-len-clause-there c = λ bytes h. found_roomy bytes c.args.self.now.entries.items c.args.number c.take.result h (search rules) (search rules)

pub returns-then-at-len-clause-others : goal.returns-then-at-len-clause-others
returns-then-at-len-clause-others c = λ bytes n other h. set_other bytes c.args.self.now.entries.items c.args.number n c.take.new.self other h

pub returns-else-at-len-clause-there : goal.returns-else-at-len-clause-there
returns-else-at-len-clause-there c = λ bytes h. (let low = there_within bytes c.args.self.now.entries.items c.args.number h in search rules)
