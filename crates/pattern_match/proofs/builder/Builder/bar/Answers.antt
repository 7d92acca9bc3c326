use Rattle.std.proofs.Common.{sym, ap, subst}
use Rattle.pattern_match.specs.declared.instruction.Instruction.TheVariants.{Bar}
use Rattle.pattern_match.specs.inner.Drafting.{Drafted, AreBegun}
use Rattle.pattern_match.proofs.BegunLemmas.{one_more, bar_leaves}
use Rattle.pattern_match.proofs.builder.Builder.bar.Goals as goal

pub returns-clause-leaves : goal.returns-clause-leaves
returns-clause-leaves c =
    bar_leaves c.args.self.now _
    (one_more _ c.self.inside.code c.push.new.self Bar c.in_ok-push.ensures.cells
    (subst (λ (d : Drafted). AreBegun d.cells d.groups) (sym c.self.view_is) c.requires))
    (ap (λ (d : Drafted). d.groups) c.self.view_is)
