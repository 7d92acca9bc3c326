-- Room for pieces, and for more behind them.
use Rattle.std.proofs.Common.{◌≡◌, ◌+◌, ◌-◌, ◌≤◌, ◌<◌, List, [], ◌∷◌, ◌++◌, length, Option, Some, None, refl, ap, ◌∙◌, arith, append_assoc, append-nil, length-append}
use Rattle.data_types.specs.Leaf.{Leaf, octet_count}
use Rattle.data_types.specs.Value.{Edge, Piece, Begins, Holds, Ends}
use Rattle.inst_pool.specs.Pieces.{Region, bytes_of, spare_nodes, spare_bytes}
use Rattle.inst_pool.proofs.ContentLemmas.{bytes_of-append}
use Rattle.inst_pool.specs.declared.piece.Edge.{Edge as Told}
use Rattle.der_model.specs.ShownPieces.{begin_each, end_each}
use Rattle.der_codec.specs.Reserved.{GrowsRoom, HoldsMore}
use Rattle.der_codec.specs.inner.Elements.{edge_if, edges_of}
use Rattle.der_codec.specs.declared.elements.Elements.{Elements}

pub holds_first : (old : Region) (a b : List Piece) → HoldsMore old (a ++ b) → HoldsMore old a
holds_first old a b h =
    let n = ap length (append_assoc old.pieces a b) in
    let m = length-append (old.pieces ++ a) b in
    let x = ap bytes_of (append_assoc old.pieces a b) in
    let y = bytes_of-append (old.pieces ++ a) b in
    (let a0 = h.0 in omega (arith, a0, n, m), let a1 = h.1 in omega (arith, a1, x, y))

pub holds_then : (old mid : Region) (a b : List Piece) → HoldsMore old (a ++ b) → mid.pieces ≡ old.pieces ++ a → GrowsRoom (Some old) (Some mid) → HoldsMore mid b
holds_then old mid a b h is grows =
    let all : mid.pieces ++ b ≡ old.pieces ++ (a ++ b) = ap (λ z. z ++ b) is ∙ append_assoc old.pieces a b in
    let n = ap length all in
    let x = ap bytes_of all in
    (let a0 = h.0 in let g0 = grows.0 in omega (arith, a0, n, g0), let a1 = h.1 in let g1 = grows.1 in omega (arith, a1, x, g1))

pub one_spare : (old : Region) (piece : Piece) → HoldsMore old (piece ∷ []) → 0 < spare_nodes old
one_spare old piece h = (let sum = length-append old.pieces (piece ∷ []) in let a0 = h.0 in omega (arith, a0, sum))

pub leaf_spare : (old : Region) (leaf : Leaf) → HoldsMore old (Holds leaf ∷ []) → octet_count leaf ≤ spare_bytes old
leaf_spare old leaf h = (let sum = bytes_of-append old.pieces (Holds leaf ∷ []) in let a1 = h.1 in omega (arith, a1, sum))

-- the same of an element with its leaf
pub within_spare : (old : Region) (edge : Edge) (leaf : Leaf) → HoldsMore old (Begins edge ∷ Holds leaf ∷ Ends edge ∷ []) → 3 ≤ spare_nodes old
within_spare old edge leaf h = (let sum = length-append old.pieces (Begins edge ∷ Holds leaf ∷ Ends edge ∷ []) in let a0 = h.0 in omega (arith, a0, sum))

pub within_leaf_spare : (old : Region) (edge : Edge) (leaf : Leaf) → HoldsMore old (Begins edge ∷ Holds leaf ∷ Ends edge ∷ []) → octet_count leaf ≤ spare_bytes old
within_leaf_spare old edge leaf h = (let sum = bytes_of-append old.pieces (Begins edge ∷ Holds leaf ∷ Ends edge ∷ []) in let a1 = h.1 in omega (arith, a1, sum))

-- the elements of a component, one after the other
pub begun_each : (outer inner : Option Told) → begin_each (edge_if outer ++ edge_if inner) ≡ begin_each (edge_if outer) ++ begin_each (edge_if inner)
begun_each None inner = refl
begun_each (Some a) inner = refl

pub ended_each : (outer inner : Option Told) → end_each (edge_if outer ++ edge_if inner) ≡ end_each (edge_if inner) ++ end_each (edge_if outer)
ended_each None None = refl
ended_each None (Some b) = refl
ended_each (Some a) None = refl
ended_each (Some a) (Some b) = refl

-- the outer element alone
pub outer_only : (e : Elements) → e.inner ≡ None → edges_of e ≡ edge_if e.outer
outer_only e none = ap (λ z. edge_if e.outer ++ edge_if z) none ∙ append-nil (edge_if e.outer)
