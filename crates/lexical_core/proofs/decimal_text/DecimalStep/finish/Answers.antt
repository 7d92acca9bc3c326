use Rattle.std.proofs.Common.{inl, inr, subst}
use Rattle.lexical_core.specs.Decimals.{IsDecimalText}
use Rattle.lexical_core.specs.declared.decimal_text.Stage.TheVariants.{Start, Whole, Fraction, Failed}
use Rattle.lexical_core.proofs.decimal_text.DecimalStep.finish.Goals as goal
use Rattle.lexical_core.proofs.DecimalTexts.{whole_answer, fraction_answer, empty_is_none, HasReadIn-from, BeginsNone-whole}

pub returns-in-Whole : goal.returns-in-Whole
returns-in-Whole c = λ text h.
    let s = c.args.self.now in
    elim c.in-Whole.is [
      | inl e ↦ let w = HasReadIn-from Whole s text e h in whole_answer s text c.number_of.result w.0 (c.number_of.ensures _ _ w.0.number)
      | inr e ↦ let w = HasReadIn-from Fraction s text e h in fraction_answer s text c.number_of.result w (c.number_of.ensures _ _ w.number)
    ]

pub returns-in-Start : goal.returns-in-Start
returns-in-Start c = λ text h t.
    let s = c.args.self.now in
    elim c.in-Start.is [
      | inl e ↦ empty_is_none (subst IsDecimalText (HasReadIn-from Start s text e h).1 t)
      | inr e ↦ BeginsNone-whole text (HasReadIn-from Failed s text e h) t
    ]
