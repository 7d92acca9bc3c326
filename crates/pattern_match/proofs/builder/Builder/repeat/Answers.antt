use Rattle.std.proofs.Common.{take, refl, sym, ap, subst}
use Rattle.pattern_match.specs.inner.Drafting.{Drafted, AreBegun}
use Rattle.pattern_match.specs.declared.token.Token.TheVariants.{Times}
use Rattle.pattern_match.proofs.BegunLemmas.{piece_leaves, kept_ready}
use Rattle.pattern_match.proofs.builder.Builder.repeat.Goals as goal

pub returns-clause-leaves : goal.returns-clause-leaves
returns-clause-leaves c =
    piece_leaves (Times c.args.least c.args.most) c.args.self.now _ refl
    (kept_ready c.self.inside.code _ c.in_ok-repeat_piece.ensures.kept
    (subst (λ (d : Drafted). AreBegun (take d.cell d.cells) d.groups) (sym c.self.view_is) c.requires.begun))
    (ap (λ (d : Drafted). d.groups) c.self.view_is)
