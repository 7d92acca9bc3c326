use Rattle.std.proofs.Common.{◌++◌, ◌∷◌, [], ◌∙◌, ap}
use Rattle.data_types.specs.Leaf.{Leaf}
use Rattle.data_types.specs.Value.{Begins, Holds, Ends}
use Rattle.inst_pool.specs.Pieces.{open_in}
use Rattle.drill.specs.inner.PathPieces.{name_edge}
use Rattle.drill.proofs.PathLemmas.{begun_open, held_open, ended_open, some_open, name_appended}
use Rattle.drill.proofs.stem.push_name.Goals as goal

pub close-requires : goal.close-requires
close-requires c =
    let begun = begun_open c.args.builder.now.pieces c.begin.new.self.pieces name_edge c.in_ok-begin.ensures.ok in
    some_open c.leaf_from.new.self.pieces name_edge (open_in c.args.builder.now.pieces) (held_open c.begin.new.self.pieces c.leaf_from.new.self.pieces _ c.in_ok-leaf_from.ensures.ok ∙ begun)

pub returns-clause-pieces : goal.returns-clause-pieces
returns-clause-pieces c =
    let begun = begun_open c.args.builder.now.pieces c.begin.new.self.pieces name_edge c.in_ok-begin.ensures.ok in
    let around = held_open c.begin.new.self.pieces c.leaf_from.new.self.pieces _ c.in_ok-leaf_from.ensures.ok ∙ begun in
    name_appended _ _ _ _ _ c.in_ok-begin.ensures.ok c.in_ok-leaf_from.ensures.ok (c.in_ok-close.ensures.ok name_edge (open_in c.args.builder.now.pieces) around)
    ∙ ap (λ (l : Leaf). c.args.builder.now.pieces ++ (Begins name_edge ∷ (Holds l ∷ (Ends name_edge ∷ [])))) c.leaf_of_bytes-leaf.ensures

pub returns-clause-open_are : goal.returns-clause-open_are
returns-clause-open_are c =
    let begun = begun_open c.args.builder.now.pieces c.begin.new.self.pieces name_edge c.in_ok-begin.ensures.ok in
    let around = held_open c.begin.new.self.pieces c.leaf_from.new.self.pieces _ c.in_ok-leaf_from.ensures.ok ∙ begun in
    ended_open c.leaf_from.new.self.pieces c.close.new.self.pieces name_edge name_edge _ (c.in_ok-close.ensures.ok name_edge (open_in c.args.builder.now.pieces) around) around
