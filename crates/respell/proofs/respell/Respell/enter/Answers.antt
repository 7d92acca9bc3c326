use Rattle.std.proofs.Common.{sym, reverse, ◌∙◌}
use Rattle.respell.proofs.KeptLemmas.{kept_same}
use Rattle.respell.proofs.respell.Respell.enter.Goals as goal

pub returns-then-is_declared-clause-kept : goal.returns-then-is_declared-clause-kept
returns-then-is_declared-clause-kept c defaults local h =
    kept_same (reverse c.args.self.now.defaults.items) c.args.self.now.declares.items c.push.new.self.items defaults (record { namespace = c.args.ns.now; local = local }) c.in_ok-push.ensures.items (sym (c.is_declared.ensures defaults h) ∙ c.if-is_declared.true) h
