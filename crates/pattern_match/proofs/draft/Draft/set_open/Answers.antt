use Rattle.std.proofs.Common.{false, sym, subst}
use Rattle.pattern_match.specs.declared.instruction.Instruction.TheVariants.{Open}
use Rattle.pattern_match.specs.inner.Drafting.{IsPlace}
use Rattle.pattern_match.proofs.CellCounts.{marked_counts}
use Rattle.pattern_match.proofs.draft.Draft.set_open.Goals as goal

pub invariant_of-self : goal.invariant_of-self
invariant_of-self c =
    marked_counts c.self.inside.cells.items c.args.place (Open c.saturating_sub-length.result c.args.empty false) c.self.inside.holes
    (subst (λ x. IsPlace x c.args.place) (sym c.self.view_is) c.requires) c.self.invariant
