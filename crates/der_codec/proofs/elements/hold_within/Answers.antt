use Rattle.std.proofs.Common.{◌≡◌, ◌++◌, ◌∷◌, [], sym, subst}
use Rattle.data_types.specs.LeafAnswers.{leaf_of}
use Rattle.data_types.specs.Value.{Holds}
use Rattle.der_model.specs.ShownPieces.{begin_each, end_each}
use Rattle.der_codec.specs.Reserved.{HoldsMore}
use Rattle.der_codec.proofs.PiecesOpen.{on_ok_when}
use Rattle.der_codec.proofs.Growing.{outer_only}
use Rattle.der_codec.proofs.elements.hold_within.Goals as goal

pub returns-in-None-clause-held : goal.returns-in-None-clause-held
returns-in-None-clause-held c =
    let leaf = leaf_of c.args.leaf.now in
    let shown = c.args.builder.now.pieces in
    on_ok_when c.hold_in.result _ _ c.hold_in.ensures.held (λ is. subst (λ z. c.hold_in.new.builder.pieces ≡ shown ++ (begin_each z ++ Holds leaf ∷ end_each z)) (sym (outer_only c.args.begun.now c.in-None.is)) is)

pub returns-in-None-clause-within : goal.returns-in-None-clause-within
returns-in-None-clause-within c = λ h. (let leaf = leaf_of c.args.leaf.now in c.hold_in.ensures.within (subst (λ z. HoldsMore c.args.builder.now (begin_each z ++ Holds leaf ∷ end_each z)) (outer_only c.args.begun.now c.in-None.is) h))
