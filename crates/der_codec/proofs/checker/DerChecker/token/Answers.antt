use Rattle.std.proofs.Common.{◌∙◌, subst, sym, ◌≤◌}
use Rattle.der_codec.proofs.Fed.{token_is}
use Rattle.der_codec.proofs.checker.DerChecker.token.Goals as goal

pub returns-clause-come : goal.returns-clause-come
returns-clause-come c = λ T bytes h. c.header_come.ensures ∙ (token_is T c.args.self.now bytes h).0

pub returns-clause-bound : goal.returns-clause-bound
returns-clause-bound c = λ T bytes h. subst (λ z. z ≤ 8) (sym c.header_come.ensures) (token_is T c.args.self.now bytes h).1
