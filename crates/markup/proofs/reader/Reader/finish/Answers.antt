use Rattle.std.proofs.Common.{refl, sym, subst}
use Rattle.lexical_core.specs.declared.rule.Rule.TheVariants.{Truncated}
use Rattle.markup.specs.Faults.{MarkFaultUnder}
use Rattle.markup.proofs.reader.Reader.finish.Goals as goal

pub returns-clause-err : goal.returns-clause-err
returns-clause-err c limit bytes told h = subst (λ n. MarkFaultUnder limit bytes (record { rule = Truncated; place = n })) (sym c.place.ensures) ((c.if-is_whole.ensures).cut limit bytes told h refl)
