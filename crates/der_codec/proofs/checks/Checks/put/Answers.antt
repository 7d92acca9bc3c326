use Rattle.std.proofs.Common.{Some}
use Rattle.der_codec.proofs.KeptChecks.{set_one, set_other, set_there}
use Rattle.der_codec.proofs.checks.Checks.put.Goals as goal

pub returns-clause-made : goal.returns-clause-made
returns-clause-made c = λ types h made n check found. set_one types c.args.self.now.entries.items c.args.number (Some c.args.check) made h n check found

pub returns-clause-others : goal.returns-clause-others
returns-clause-others c = λ bytes n other h. set_other bytes c.args.self.now.entries.items c.args.number n (Some c.args.check) other h

pub returns-clause-there : goal.returns-clause-there
returns-clause-there c = λ bytes roomy. set_there bytes c.args.self.now.entries.items c.args.number c.args.check roomy c.requires
