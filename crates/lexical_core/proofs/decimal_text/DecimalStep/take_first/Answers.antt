use Rattle.std.proofs.Common.{refl, inr, subst, sym, ap, ◌∷◌, []}
use Rattle.lexical_core.specs.Decimals.{IsSign}
use Rattle.lexical_core.proofs.DecimalTexts.{first_sign, not_negative}
use Rattle.lexical_core.proofs.decimal_text.DecimalStep.take_first.Goals as goal

pub returns-in-43 : goal.returns-in-43
returns-in-43 c = λ text w none.
    first_sign c.args.self.now _ text c.args.c w none
    (subst (λ b. IsSign b (c.args.c ∷ [])) (sym (not_negative c.args.self.now text w none)) (inr (ap (λ x. x ∷ []) c.in-43.is))) refl
