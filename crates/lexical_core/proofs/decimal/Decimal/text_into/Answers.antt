use Rattle.std.proofs.Common.{subst, sym}
use Rattle.lexical_core.specs.Decimals.{IsCanonicalText}
use Rattle.lexical_core.proofs.Written.{canonical_is}
use Rattle.lexical_core.proofs.decimal.Decimal.text_into.Goals as goal

pub returns-clause-text : goal.returns-clause-text
returns-clause-text c =
    subst (λ t. IsCanonicalText t c.args.self.now) (sym c.put_text.ensures.text) (canonical_is c.args.self.now c.put_text.ensures.decimal)
