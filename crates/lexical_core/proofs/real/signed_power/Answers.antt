use Rattle.std.proofs.Common.{sym, ◌∙◌}
use Rattle.lexical_core.proofs.RealLemmas.{minus_exponent}
use Rattle.lexical_core.proofs.real.signed_power.Goals as goal

pub returns-in-None-power_of-clause-none : goal.returns-in-None-power_of-clause-none
returns-in-None-power_of-clause-none c = λ e small is.
    let power = minus_exponent e c.in-Some.power.now small (sym c.in-Some.ensures ∙ is) in
    c.in-None-power_of.ensures.none power.0 power.1 power.2 power.3
