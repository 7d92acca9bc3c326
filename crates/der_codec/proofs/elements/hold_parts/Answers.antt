use Rattle.std.proofs.Common.{◌++◌, ◌∷◌, [], ap, ◌∙◌}
use Rattle.data_types.specs.LeafAnswers.{leaf_of}
use Rattle.data_types.specs.Value.{Holds}
use Rattle.inst_pool.specs.Pieces.{open_in}
use Rattle.der_model.specs.ShownPieces.{begin_each, end_each}
use Rattle.der_codec.specs.inner.Elements.{edges_of}
use Rattle.der_codec.proofs.PiecesOpen.{on_ok_when, leaf_open}
use Rattle.der_codec.proofs.ShownUsual.{pieces_join}
use Rattle.der_codec.proofs.Growing.{holds_first, holds_then}
use Rattle.der_codec.proofs.elements.hold_parts.Goals as goal

pub end_elements-requires : goal.end_elements-requires
end_elements-requires c =
    let begun = c.args.begun.now in
    let leaf = leaf_of c.args.leaf.now in
    let shown = c.args.builder.now.pieces in
    (open_in shown, ap open_in (c.in_default-append.ensures.held ∙ ap (λ z. z ++ Holds leaf ∷ []) c.in_default.ensures.begun) ∙ leaf_open begun.outer begun.inner shown leaf)

pub returns-clause-held : goal.returns-clause-held
returns-clause-held c =
    let begun = c.args.begun.now in
    let leaf = leaf_of c.args.leaf.now in
    let shown = c.args.builder.now.pieces in
    let edges = edges_of begun in
    let both = c.in_default-append.ensures.held ∙ ap (λ z. z ++ Holds leaf ∷ []) c.in_default.ensures.begun in
    on_ok_when c.end_elements.result _ _ (c.end_elements.ensures.ended (open_in shown) (ap open_in both ∙ leaf_open begun.outer begun.inner shown leaf))
    (λ is. is ∙ (ap (λ z. z ++ end_each edges) both ∙ pieces_join shown (begin_each edges) (end_each edges) (Holds leaf)))

pub returns-clause-within : goal.returns-clause-within
returns-clause-within c = λ h.
    let b = c.args.builder.now in
    let begun = c.args.begun.now in
    let leaf = leaf_of c.args.leaf.now in
    let edges = edges_of begun in
    let one = holds_then b c.begin_elements.new.builder (begin_each edges) (Holds leaf ∷ end_each edges) h c.in_default.ensures.begun c.begin_elements.ensures.room in
    c.end_elements.ensures.within (holds_then c.begin_elements.new.builder c.append.new.builder (Holds leaf ∷ []) (end_each edges) one c.in_default-append.ensures.held c.append.ensures.room)

pub returns-in-Err-clause-within : goal.returns-in-Err-clause-within
returns-in-Err-clause-within c = λ h. (let edges = edges_of c.args.begun.now in c.in-Err.ensures.within (holds_first c.args.builder.now (begin_each edges) (Holds (leaf_of c.args.leaf.now) ∷ end_each edges) h))

pub returns-in-Err-append-clause-within : goal.returns-in-Err-append-clause-within
returns-in-Err-append-clause-within c = λ h.
    let b = c.args.builder.now in
    let mid = c.begin_elements.new.builder in
    let edges = edges_of c.args.begun.now in
    let leaf = leaf_of c.args.leaf.now in
    c.in-Err-append.ensures.within (holds_first mid (Holds leaf ∷ []) (end_each edges) (holds_then b mid (begin_each edges) (Holds leaf ∷ end_each edges) h c.in_default.ensures.begun c.begin_elements.ensures.room))
