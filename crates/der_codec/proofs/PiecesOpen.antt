-- Elements that are open behind pieces, with one piece more.
use Rattle.std.specs.Prelude.{Result, Ok, Err, OnOk, IfOk}
use Rattle.std.proofs.Common.{◌≡◌, List, [], ◌∷◌, ◌++◌, Option, Some, None, refl, ap, ◌∙◌, drop, reverse}
use Rattle.data_types.specs.Leaf.{Leaf}
use Rattle.data_types.specs.Value.{Edge, Piece, Holds, Ends}
use Rattle.inst_pool.specs.Pieces.{open_in, edges_open_behind}
use Rattle.inst_pool.specs.declared.piece.Edge.{Edge as Told}
use Rattle.inst_pool.proofs.ContentLemmas.{open-append}
use Rattle.inst_pool.proofs.BuildingLemmas.{open-hold}
use Rattle.der_model.specs.ShownPieces.{begin_each}
use Rattle.der_codec.specs.inner.Elements.{edge_if}

pub on_ok_when : {A E : Type 0} (r : Result A E) (P Q : Type 0) → OnOk r P → (P → Q) → OnOk r Q
on_ok_when (Ok a) P Q p f = f p
on_ok_when (Err e) P Q p f = tt

pub closed_open : (shown : List Piece) (edge : Edge) (outer : List Edge) → open_in shown ≡ edge ∷ outer → open_in (shown ++ Ends edge ∷ []) ≡ outer
closed_open shown edge outer e = open-append [] shown (Ends edge ∷ []) ∙ ap (drop 1) e

begun_open : (outer inner : Option Told) (around : List Edge) → edges_open_behind around (begin_each (edge_if outer ++ edge_if inner)) ≡ reverse (edge_if outer ++ edge_if inner) ++ around
begun_open None None around = refl
begun_open None (Some b) around = refl
begun_open (Some a) None around = refl
begun_open (Some a) (Some b) around = refl

-- a leaf within elements that have begun
pub leaf_open : (outer inner : Option Told) (shown : List Piece) (leaf : Leaf) → open_in ((shown ++ begin_each (edge_if outer ++ edge_if inner)) ++ Holds leaf ∷ []) ≡ reverse (edge_if outer ++ edge_if inner) ++ open_in shown
leaf_open outer inner shown leaf =
    let edges = begin_each (edge_if outer ++ edge_if inner) in
    open-hold (shown ++ edges) leaf ∙ (open-append [] shown edges ∙ begun_open outer inner (open_in shown))

-- what holds for each of these where it is Ok
pub ok_for : {A E S : Type 0} (r : Result A E) (X G : S → Type 0) (Q : Type 0) → ((s : S) → X s → OnOk r (G s)) → (((s : S) → X s → G s) → Q) → IfOk r (λ _. Q)
ok_for (Ok a) X G Q h f = f h
ok_for (Err e) X G Q h f = tt
