use Rattle.lexical_core.proofs.DecimalTexts.{HasRead-from, HasReadIn-from, BeginsNone-more}
use Rattle.lexical_core.specs.declared.decimal_text.Stage.TheVariants.{Failed}
use Rattle.lexical_core.proofs.decimal_text.DecimalStep.take.Goals as goal

pub returns-in-Failed : goal.returns-in-Failed
returns-in-Failed c =
    λ text h. HasRead-from Failed c.args.self.now _ c.in-Failed.is (BeginsNone-more text c.args.c (HasReadIn-from Failed c.args.self.now text c.in-Failed.is h))
