use Rattle.std.proofs.Common.{Bool, List, length, sym, ap, ◌∙◌}
use Rattle.std.specs.Prelude.{◌==◌}
use Rattle.std.proofs.lemmas.Bool.{true≢false}
use Rattle.respell.proofs.Outside.{char_outside, char_inside, skipped_foreign, what_inside}
use Rattle.respell.proofs.respell.Respell.is_foreign.Goals as goal

pub returns-in-Char-clause-foreign : goal.returns-in-Char-clause-foreign
returns-in-Char-clause-foreign c forgotten items h = char_outside c.args.self.now forgotten items c.args.what.now c.in-Char.field-0 c.is_empty.result c.in-Char.is (c.is_empty.ensures ∙ ap (λ (l : List Bool). length l == 0) c.as_slice.ensures.value) h

pub returns-in-Char-clause-own : goal.returns-in-Char-clause-own
returns-in-Char-clause-own c forgotten items h = char_inside c.args.self.now forgotten items c.args.what.now c.in-Char.field-0 c.is_empty.result c.in-Char.is (c.is_empty.ensures ∙ ap (λ (l : List Bool). length l == 0) c.as_slice.ensures.value) h

pub returns-in-Skipped : goal.returns-in-Skipped
returns-in-Skipped c = record { foreign = λ forgotten items h met none. skipped_foreign items c.args.what.now c.in-Skipped.is none; own = λ forgotten items h inside unmet. absurd (true≢false unmet) }

pub returns-in_default : goal.returns-in_default
returns-in_default c = record { foreign = λ forgotten items h met. absurd (true≢false (sym met)); own = λ forgotten items h inside unmet. what_inside items c.args.what.now c.in_default.not-Char c.in_default.not-Skipped inside }
