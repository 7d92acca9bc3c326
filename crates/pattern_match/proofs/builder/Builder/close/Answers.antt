use Rattle.std.proofs.Common.{refl, sym, ap, ◌∙◌, subst}
use Rattle.pattern_match.specs.inner.Drafting.{Drafted, KeepsFront, group_place}
use Rattle.pattern_match.proofs.BegunLemmas.{popped, close_leaves}
use Rattle.pattern_match.proofs.builder.Builder.close.Goals as goal

pub returns-in_ok-close_group-clause-leaves : goal.returns-in_ok-close_group-clause-leaves
returns-in_ok-close_group-clause-leaves c =
    close_leaves c.args.self.now _ c.in-Some.group
    (ap (λ (d : Drafted). d.groups) (sym c.self.view_is) ∙ popped c.self.inside.begun.items c.pop.new.self.items c.pop.result c.in-Some.group c.pop.ensures.items c.in-Some.is)
    c.requires
    (subst (λ (d : Drafted). KeepsFront d.cells c.close_group.new.code (group_place c.in-Some.group)) c.self.view_is c.in_ok-close_group.ensures.kept)
    refl
