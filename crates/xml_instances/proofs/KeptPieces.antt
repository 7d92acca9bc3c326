-- Pieces that are kept go on as what is shown.
use Rattle.std.proofs.Common.{◌≡◌, ℕ, ◌<◌, List, [], ◌∷◌, ◌++◌, Option, Some, None, refl, sym, ap, ◌∙◌, subst, length, append_assoc, arith}
use Rattle.std.specs.Prelude.{slice_get, Result, Ok, Err, OnOk}
use Rattle.lexical_core.specs.Tree.{Item, Starts, Char, Nodes, Element, Text, Tree, flat, flat_nodes}
use Rattle.lexical_core.specs.Tree.{Ends as EndsItem}
use Rattle.lexical_core.specs.Tree as tree
use Rattle.data_types.specs.Leaf as leaf
use Rattle.data_types.specs.Value.{Edge, Piece, Begins, Holds, Ends}
use Rattle.respell.specs.Respelling.{told_of, AreOf}
use Rattle.respell.specs.Kept.{HasTakenItems}
use Rattle.respell.specs.declared.respell.Respell.{Respell}
use Rattle.inst_pool.specs.Pieces.{edge_of, open_in, edges_open_behind}
use Rattle.inst_pool.specs.declared.piece.Edge.{Edge as Told}
use Rattle.inst_pool.proofs.ContentLemmas.{open-append}
use Rattle.xml_instances.specs.Built.{Shown, type_at, with_begun, with_leaf, without_inside, close_shown, closed_at}
use Rattle.xml_instances.specs.Keeping.{PiecesKept, HasShown, GoOn, with_all_inside}

-- ---- the open elements behind more pieces

abbrev pub kept_as : List Piece → Respell → PiecesKept
kept_as pieces element = record { pieces = pieces; element = element }

-- ---- the innermost open element

-- where there is one
pub innermost_type : (edge : Told) (edges : List Edge) → Some (edge_of edge) ≡ slice_get edges 0 → edge.target ≡ type_at edges
innermost_type edge [] is = absurd cc
innermost_type edge (first ∷ edges) is = ap (λ (e : Edge). e.target) (same (edge_of edge) first is)
  where
    same : (a b : Edge) → Some a ≡ Some b → a ≡ b
    same a b e = cc

pub some_open : (edge : Edge) (edges : List Edge) → Some edge ≡ slice_get edges 0 → 0 < length edges
some_open edge [] is = absurd cc
some_open edge (first ∷ edges) is = omega arith

-- and where there is none
pub none_open : (edges : List Edge) → None ≡ slice_get edges 0 → edges ≡ []
none_open [] is = refl
none_open (first ∷ edges) is = absurd cc

-- ---- more pieces

pub begun_shown : (old : PiecesKept) (s : Shown) (slot target parent : ℕ) (more : List Piece) → HasShown old s → parent ≡ type_at (open_in old.pieces) → more ≡ old.pieces ++ Begins (record { slot = slot; target = target; parent = parent }) ∷ []
    → HasShown (kept_as more old.element) (with_begun (Some (record { slot = slot; target = target; parent = type_at s.edges })) s)
begun_shown old s slot target parent more h is appended = record {
  pieces_are = appended ∙ (ap (λ (p : ℕ). old.pieces ++ Begins (edge p) ∷ []) same ∙ ap (λ (ps : List Piece). ps ++ Begins (edge (type_at s.edges)) ∷ []) h.pieces_are);
  open_are = ap open_in appended ∙ (open-append [] old.pieces (Begins (edge parent) ∷ []) ∙ (ap (λ (p : ℕ). edge p ∷ open_in old.pieces) same ∙ ap (λ (es : List Edge). edge (type_at s.edges) ∷ es) h.open_are));
  inside_are = h.inside_are;
}
  where
    edge : ℕ → Edge
    edge p = record { slot = slot; target = target; parent = p }

    same : parent ≡ type_at s.edges
    same = is ∙ ap type_at h.open_are

pub leaf_shown : (old : PiecesKept) (s : Shown) (l : leaf.Leaf) (more : List Piece) → HasShown old s → more ≡ old.pieces ++ Holds l ∷ [] → HasShown (kept_as more old.element) (with_leaf l s)
leaf_shown old s l more h appended = record {
  pieces_are = appended ∙ ap (λ (ps : List Piece). ps ++ Holds l ∷ []) h.pieces_are;
  open_are = ap open_in appended ∙ (open-append [] old.pieces (Holds l ∷ []) ∙ h.open_are);
  inside_are = h.inside_are;
}

pub leaf_ok : {T E : Type 0} (old : PiecesKept) (s : Shown) (l : leaf.Leaf) (more : List Piece) (r : Result T E) → HasShown old s → OnOk r (more ≡ old.pieces ++ Holds l ∷ []) → OnOk r (HasShown (kept_as more old.element) (with_leaf l s))
leaf_ok old s l more (Ok x) h appended = leaf_shown old s l more h appended
leaf_ok old s l more (Err e) h appended = tt

pub begun_ok : {T E : Type 0} (old : PiecesKept) (s : Shown) (slot target parent : ℕ) (more : List Piece) (r : Result T E) → HasShown old s → parent ≡ type_at (open_in old.pieces)
    → OnOk r (more ≡ old.pieces ++ Begins (record { slot = slot; target = target; parent = parent }) ∷ []) → OnOk r (HasShown (kept_as more old.element) (with_begun (Some (record { slot = slot; target = target; parent = type_at s.edges })) s))
begun_ok old s slot target parent more (Ok x) h is appended = begun_shown old s slot target parent more h is appended
begun_ok old s slot target parent more (Err e) h is appended = tt

-- an element that ends
pub closed_shown : (old : PiecesKept) (s : Shown) (more : List Piece) (e : Edge) (outer : List Edge) → HasShown old s → open_in old.pieces ≡ e ∷ outer → more ≡ old.pieces ++ Ends e ∷ [] → HasShown (kept_as more old.element) (close_shown s)
closed_shown old s more e outer h is_open appended = subst (λ (es : List Edge). HasShown (kept_as more old.element) (closed_at es s)) (sym is_open ∙ h.open_are) (record {
  pieces_are = appended ∙ ap (λ (ps : List Piece). ps ++ Ends e ∷ []) h.pieces_are;
  open_are = ap open_in appended ∙ (open-append [] old.pieces (Ends e ∷ []) ∙ ap (λ (es : List Edge). edges_open_behind es (Ends e ∷ [])) is_open);
  inside_are = h.inside_are;
})

pub closed_ok : {T E : Type 0} (old : PiecesKept) (s : Shown) (more : List Piece) (e : Edge) (outer : List Edge) (r : Result T E) → HasShown old s → open_in old.pieces ≡ e ∷ outer → OnOk r (more ≡ old.pieces ++ Ends e ∷ []) → OnOk r (HasShown (kept_as more old.element) (close_shown s))
closed_ok old s more e outer (Ok x) h is_open appended = closed_shown old s more e outer h is_open appended
closed_ok old s more e outer (Err error) h is_open appended = tt

-- where none is open, nothing ends
pub still_closed : (old : PiecesKept) (s : Shown) → HasShown old s → open_in old.pieces ≡ [] → HasShown old (close_shown s)
still_closed old s h is_open = subst (λ (es : List Edge). HasShown old (closed_at es s)) (sym is_open ∙ h.open_are) (same s.edges (sym h.open_are ∙ is_open))
  where
    same : (es : List Edge) → es ≡ [] → HasShown old (closed_at [] s)
    same es e = h

pub envelope_shown : (old : PiecesKept) (s : Shown) (bytes : List ℕ) (more : List Piece) (element : Respell) → HasShown old s → HasTakenItems element [] → more ≡ old.pieces ++ Holds (leaf.Bytes bytes) ∷ []
    → HasShown (kept_as more element) (without_inside (with_leaf (leaf.Bytes bytes) s))
envelope_shown old s bytes more element h empty appended = record {
  pieces_are = appended ∙ ap (λ (ps : List Piece). ps ++ Holds (leaf.Bytes bytes) ∷ []) h.pieces_are;
  open_are = ap open_in appended ∙ (open-append [] old.pieces (Holds (leaf.Bytes bytes) ∷ []) ∙ h.open_are);
  inside_are = empty;
}

-- events of the element of an envelope
pub inside_ok : {T E : Type 0} (old : PiecesKept) (s : Shown) (items : List Item) (element : Respell) (r : Result T E) → HasShown old s → OnOk r (HasTakenItems element (s.inside ++ items)) → OnOk r (HasShown (kept_as old.pieces element) (with_all_inside items s))
inside_ok old s items element (Ok x) h taken = record { pieces_are = h.pieces_are; open_are = h.open_are; inside_are = taken }
inside_ok old s items element (Err e) h taken = tt

-- one step of the pieces that are kept
pub one_step : {T E : Type 0} (a : Option PiecesKept) (old new : PiecesKept) (f : Shown → Shown) (r : Result T E) → a ≡ Some old → ((s : Shown) → HasShown old s → OnOk r (HasShown new (f s))) → OnOk r (GoOn a (Some new) (λ s t. t ≡ f s))
one_step a old new f (Ok x) is h = subst (λ (v : Option PiecesKept). GoOn v (Some new) (λ s t. t ≡ f s)) (sym is) (λ s k. (f s, refl, h s k))
one_step a old new f (Err e) is h = tt

told_nodes : (nodes : Nodes) (rest : List Item) → told_of rest ≡ rest → told_of (flat_nodes nodes ++ rest) ≡ flat_nodes nodes ++ rest
told_nodes tree.Nothing rest h = h
told_nodes (Text c more) rest h = ap (λ (is : List Item). Char c ∷ is) (told_nodes more rest h)
told_nodes (Element n attributes inner more) rest h =
    ap (λ (is : List Item). Starts n attributes ∷ is)
    (subst (λ (is : List Item). told_of is ≡ is) (sym (append_assoc (flat_nodes inner) (EndsItem n ∷ flat_nodes more) rest)) (told_nodes inner (EndsItem n ∷ (flat_nodes more ++ rest)) (ap (λ (is : List Item). EndsItem n ∷ is) (told_nodes more rest h))))

-- all events of a tree speak of it
pub told_flat : (t : Tree) (items : List Item) → items ≡ flat t → AreOf items t
told_flat t items is = ap told_of is ∙ ap (λ (is : List Item). Starts t.name t.attributes ∷ is) (told_nodes t.children (EndsItem t.name ∷ []) refl)

-- some element is open where a type is kept
pub one_open : (pieces : List Piece) → 0 < length (open_in pieces) → (e : Edge) × (outer : List Edge) × (open_in pieces ≡ e ∷ outer)
one_open pieces h = by (open_in pieces) refl h
  where
    by : (es : List Edge) → open_in pieces ≡ es → 0 < length es → (e : Edge) × (outer : List Edge) × (open_in pieces ≡ e ∷ outer)
    by [] q h = absurd (omega (arith, h))
    by (e ∷ outer) q h = (e, outer, q)
