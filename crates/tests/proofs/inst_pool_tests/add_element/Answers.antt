use Rattle.std.proofs.Common.{◌≡◌, List, [], ◌∷◌, ◌++◌, ap, ◌∙◌}
use Rattle.data_types.specs.Value.{Edge, Piece, Begins, Holds, Ends}
use Rattle.inst_pool.specs.Pieces.{open_in}
use Rattle.tests.proofs.inst_pool_tests.add_element.Goals as goal

-- an element with a leaf in it is open until it is closed
closed : (edge : Edge) (leaf : _) (none begun held whole : List Piece) → none ≡ [] → begun ≡ none ++ Begins edge ∷ [] → held ≡ begun ++ Holds leaf ∷ []
    → (open_in held ≡ edge ∷ [] → whole ≡ held ++ Ends edge ∷ []) → open_in whole ≡ []
closed edge leaf none begun held whole e b h w =
    let all : held ≡ Begins edge ∷ Holds leaf ∷ [] = h ∙ ap (λ z. z ++ Holds leaf ∷ []) (b ∙ ap (λ z. z ++ Begins edge ∷ []) e) in
    ap open_in (w (ap open_in all) ∙ ap (λ z. z ++ Ends edge ∷ []) all)

pub returns : goal.returns
returns c =
    closed _ c.in_ok-add_leaf.ensures.0 c.args.builder.now.pieces c.begin.new.self.pieces c.add_leaf.new.builder.pieces c.close.new.self.pieces
    c.requires c.in_ok-begin.ensures.ok c.in_ok-add_leaf.ensures.1 (λ e. c.in_ok-close.ensures.ok _ [] e)
