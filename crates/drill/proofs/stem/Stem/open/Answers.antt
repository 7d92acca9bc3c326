use Rattle.std.proofs.Common.{◌∙◌, ap, arith, ◌++◌, ℕ, List, [], ◌∷◌}
use Rattle.data_types.specs.Leaf.{Bytes}
use Rattle.data_types.specs.Value.{Begins, Holds, Ends}
use Rattle.drill.specs.inner.PathPieces.{name_edge}
use Rattle.drill.proofs.PathLemmas.{stem_under}
use Rattle.drill.proofs.stem.Stem.open.Goals as goal

pub returns : goal.returns
returns c = λ p h.
    stem_under p _ _ c.args.number c.begin.new.self.pieces h c.in_ok-begin.ensures.ok
    (c.in_ok-push_name.ensures.pieces ∙ ap (λ (text : List ℕ). c.begin.new.self.pieces ++ (Begins name_edge ∷ (Holds (Bytes text) ∷ (Ends name_edge ∷ [])))) c.requires.name)
    c.in_ok-push_name.ensures.open_are (omega arith)
