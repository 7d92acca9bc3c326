use Rattle.std.proofs.Common.{subst, sym}
use Rattle.std.specs.Option.{IfNone}
use Rattle.lexical_core.specs.Decimals.{Number, IsDecimal}
use Rattle.lexical_core.specs.Reals.{IsRealNumber}
use Rattle.lexical_core.specs.Exponents.{exponent_value}
use Rattle.lexical_core.specs.declared.real.Exponent.{Exponent}
use Rattle.lexical_core.proofs.RealLemmas.{IfNone-map, scaled_too_great}
use Rattle.lexical_core.proofs.real.decimal_of.Goals as goal

pub returns-in-Up-clause-none : goal.returns-in-Up-clause-none
returns-in-Up-clause-none c =
    subst (λ (x : Exponent). IfNone c.scaled_up.result ((n : Number) → IsDecimal n → IsRealNumber c.args.negative c.args.value (exponent_value x) n → ⊥)) (sym c.in-Up.is)
    (IfNone-map c.scaled_up.result _ _ (λ great. scaled_too_great c.args.negative c.args.value c.in-Up.power great) c.scaled_up.ensures.none)
