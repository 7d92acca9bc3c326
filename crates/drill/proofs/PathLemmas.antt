-- The pieces of a path of open nodes: a node is left, one opens, and all close.
use Rattle.std.proofs.Common.{◌≡◌, ℕ, zero, suc, ◌+◌, ◌<◌, ◌≤◌, List, [], ◌∷◌, ◌++◌, length, refl, sym, ap, ◌∙◌, drop, append_assoc, arith}
use Rattle.data_types.specs.Leaf.{Leaf}
use Rattle.data_types.specs.Value.{Value, Edge, Piece, Begins, Holds, Ends}
use Rattle.fragments.specs.Fragment.{fragment}
use Rattle.inst_pool.specs.Pieces.{open_in}
use Rattle.inst_pool.proofs.ContentLemmas.{open-append}
use Rattle.message_model.specs.Tables.{pieces_of, pieces, types_of}
use Rattle.drill.specs.BuiltIn.{drill_tables}
use Rattle.drill.specs.Growing.{OpenNode, Path, with_below, node, path_outside, path_outside_from, path_after, path_under, tree_of, tree_of_from, document}
use Rattle.drill.specs.inner.PathPieces.{message_edge, root_edge, name_edge, child_edge, name_pieces, below_pieces, inside_pieces, pieces_from, pieces_so_far, edges_round, HasPath}
use Rattle.drill.specs.declared.stem.Stem.{Stem}

-- one node more below
below_more : (values : List Value) (v : Value) → below_pieces (values ++ v ∷ []) ≡ below_pieces values ++ (Begins child_edge ∷ (pieces fragment (types_of drill_tables) 3 v ++ (Ends child_edge ∷ [])))
below_more [] v = refl
below_more (u ∷ values) v =
    let behind = below_pieces values in
    let more = Begins child_edge ∷ (pieces fragment (types_of drill_tables) 3 v ++ (Ends child_edge ∷ [])) in
    ap (λ ps. Begins child_edge ∷ (pieces fragment (types_of drill_tables) 3 u ++ (Ends child_edge ∷ ps))) (below_more values v)
    ∙ ap (λ ps. Begins child_edge ∷ ps) (sym (append_assoc (pieces fragment (types_of drill_tables) 3 u) (Ends child_edge ∷ behind) more))

-- a node that closes below another
inside_more : (outer inner : OpenNode) → inside_pieces (with_below outer inner) ≡ inside_pieces outer ++ (Begins child_edge ∷ (inside_pieces inner ++ (Ends child_edge ∷ [])))
inside_more outer inner =
    ap (λ ps. name_pieces outer.number ++ ps) (below_more outer.values (node inner.number inner.values))

from_more : (x y : OpenNode) (outers : List OpenNode) (more : List Piece) → inside_pieces y ≡ inside_pieces x ++ more → pieces_from y outers ≡ pieces_from x outers ++ more
from_more x y [] more e = ap (λ ps. Begins message_edge ∷ (Begins root_edge ∷ ps)) e
from_more x y (outer ∷ outers) more e =
    ap (λ ps. pieces_from outer outers ++ (Begins child_edge ∷ ps)) e ∙ sym (append_assoc (pieces_from outer outers) (Begins child_edge ∷ inside_pieces x) more)

pub left_pieces : (inner outer : OpenNode) (outers : List OpenNode) → pieces_from (with_below outer inner) outers ≡ pieces_from inner (outer ∷ outers) ++ (Ends child_edge ∷ [])
left_pieces inner outer outers =
    from_more outer (with_below outer inner) outers (Begins child_edge ∷ (inside_pieces inner ++ (Ends child_edge ∷ []))) (inside_more outer inner)
    ∙ sym (append_assoc (pieces_from outer outers) (Begins child_edge ∷ inside_pieces inner) (Ends child_edge ∷ []))

-- where one node is open, it closes, and the message's element
pub all_closed : (inner : OpenNode) → pieces_from inner [] ++ (Ends root_edge ∷ (Ends message_edge ∷ [])) ≡ pieces_of fragment drill_tables (document (tree_of_from inner []))
all_closed inner = ap (λ ps. Begins message_edge ∷ (Begins root_edge ∷ ps)) (sym (append_assoc (inside_pieces inner) (Ends root_edge ∷ []) (Ends message_edge ∷ [])))

-- ---- the elements that are open

pub begun_open : (old new : List Piece) (e : Edge) → new ≡ old ++ Begins e ∷ [] → open_in new ≡ e ∷ open_in old
begun_open old new e is = ap open_in is ∙ open-append [] old (Begins e ∷ [])

pub held_open : (old new : List Piece) (l : Leaf) → new ≡ old ++ Holds l ∷ [] → open_in new ≡ open_in old
held_open old new l is = ap open_in is ∙ open-append [] old (Holds l ∷ [])

pub ended_open : (old new : List Piece) (e first : Edge) (outer : List Edge) → new ≡ old ++ Ends e ∷ [] → open_in old ≡ first ∷ outer → open_in new ≡ outer
ended_open old new e first outer is around = ap open_in is ∙ (open-append [] old (Ends e ∷ []) ∙ ap (drop 1) around)

pub some_open : (pieces : List Piece) (e : Edge) (outer : List Edge) → open_in pieces ≡ e ∷ outer → 0 < length (open_in pieces)
some_open pieces e outer is = rw is (omega arith)

-- a name with its element, appended
pub name_appended : (old begun held new : List Piece) (l : Leaf) → begun ≡ old ++ Begins name_edge ∷ [] → held ≡ begun ++ Holds l ∷ [] → new ≡ held ++ Ends name_edge ∷ []
    → new ≡ old ++ (Begins name_edge ∷ (Holds l ∷ (Ends name_edge ∷ [])))
name_appended old begun held new l b h e =
    let first : held ≡ old ++ (Begins name_edge ∷ (Holds l ∷ [])) = h ∙ (ap (λ ps. ps ++ Holds l ∷ []) b ∙ append_assoc old (Begins name_edge ∷ []) (Holds l ∷ [])) in
    e ∙ (ap (λ ps. ps ++ Ends name_edge ∷ []) first ∙ append_assoc old (Begins name_edge ∷ (Holds l ∷ [])) (Ends name_edge ∷ []))

-- ---- a stem

-- the innermost element that is open ends
abbrev pub Closes : Stem → Stem → Type 0
Closes s t = (e : Edge) (outer : List Edge) → open_in s.builder.pieces ≡ e ∷ outer → t.builder.pieces ≡ s.builder.pieces ++ Ends e ∷ []

left_at : (inner : OpenNode) (outers : List OpenNode) (s t : Stem) → HasPath (record { inner = inner; outers = outers }) s → 1 < s.depth → Closes s t → t.depth + 1 ≡ s.depth
    → HasPath (path_outside_from inner outers) t
left_at inner [] s t h deep ended less = let d = h.depth in absurd (omega (arith, d, deep))
left_at inner (outer ∷ outers) s t h deep ended less =
    let is : t.builder.pieces ≡ s.builder.pieces ++ Ends child_edge ∷ [] = ended child_edge (edges_round outers) h.open_are in record {
      pieces = is ∙ (ap (λ ps. ps ++ Ends child_edge ∷ []) h.pieces ∙ sym (left_pieces inner outer outers));
      open_are = ended_open s.builder.pieces t.builder.pieces child_edge child_edge (edges_round outers) is h.open_are;
      depth = let d = h.depth in omega (arith, d, less);
    }

pub stem_left : (p : Path) (s t : Stem) → HasPath p s → 1 < s.depth → Closes s t → t.depth + 1 ≡ s.depth → HasPath (path_outside p) t
stem_left p s t h deep ended less = left_at p.inner p.outers s t h deep ended less

edges_some : (outers : List OpenNode) → (e : Edge) × (edges : List Edge) × (edges_round outers ≡ e ∷ edges)
edges_some [] = (root_edge, message_edge ∷ [], refl)
edges_some (outer ∷ outers) = (child_edge, edges_round outers, refl)

-- an element is open
pub stem_open : (p : Path) (s : Stem) → HasPath p s → 0 < length (open_in s.builder.pieces)
stem_open p s h = let some = edges_some p.outers in some_open s.builder.pieces some.0 some.1 (h.open_are ∙ some.2)

pub stem_under : (p : Path) (s t : Stem) (number : ℕ) (begun : List Piece) → HasPath p s → begun ≡ s.builder.pieces ++ Begins child_edge ∷ [] → t.builder.pieces ≡ begun ++ name_pieces number
    → open_in t.builder.pieces ≡ open_in begun → t.depth ≡ s.depth + 1 → HasPath (path_under number p) t
stem_under p s t number begun h first second same more = record {
  pieces = second ∙ (ap (λ ps. ps ++ name_pieces number) (first ∙ ap (λ ps. ps ++ Begins child_edge ∷ []) h.pieces) ∙ append_assoc (pieces_so_far p) (Begins child_edge ∷ []) (name_pieces number));
  open_are = same ∙ (begun_open s.builder.pieces begun child_edge first ∙ ap (λ es. child_edge ∷ es) h.open_are);
  depth = let d = h.depth in omega (arith, d, more);
}

-- ---- so many are left

pub left_last : (n : ℕ) (p : Path) → path_after (suc n) p ≡ path_outside (path_after n p)
left_last zero p = refl
left_last (suc n) p = left_last n (path_outside p)

closes_same : (inner : OpenNode) (outers : List OpenNode) → tree_of (path_outside_from inner outers) ≡ tree_of_from inner outers
closes_same inner [] = refl
closes_same inner (outer ∷ outers) = refl

left_closes : (n : ℕ) (p : Path) → tree_of (path_after n p) ≡ tree_of p
left_closes zero p = refl
left_closes (suc n) p = left_closes n (path_outside p) ∙ closes_same p.inner p.outers

stays_last : (n : ℕ) (inner : OpenNode) → (path_after n (record { inner = inner; outers = [] })).outers ≡ []
stays_last zero inner = refl
stays_last (suc n) inner = stays_last n inner

left_last_at : (n : ℕ) (inner : OpenNode) (outers : List OpenNode) → length outers ≤ n → (path_after n (record { inner = inner; outers = outers })).outers ≡ []
left_last_at n inner [] le = stays_last n inner
left_last_at zero inner (outer ∷ outers) le = absurd (omega (arith, le))
left_last_at (suc n) inner (outer ∷ outers) le = left_last_at n (with_below outer inner) outers (omega (arith, le))

-- after as many are left as are open, one is
pub one_open : (p : Path) (s t : Stem) → HasPath p s → HasPath (path_after s.depth p) t
    → (inner : OpenNode) × (tree_of_from inner [] ≡ tree_of p) × (t.builder.pieces ≡ pieces_from inner []) × (open_in t.builder.pieces ≡ root_edge ∷ (message_edge ∷ []))
one_open p s t h g =
    let d = h.depth in
    let last = path_after s.depth p in
    let none : last.outers ≡ [] = left_last_at s.depth p.inner p.outers (omega (arith, d)) in
    (last.inner, ap (tree_of_from last.inner) (sym none) ∙ left_closes s.depth p, g.pieces ∙ ap (pieces_from last.inner) none, g.open_are ∙ ap edges_round none)

pub all_appended : (p : Path) (inner : OpenNode) (old one all : List Piece) → tree_of_from inner [] ≡ tree_of p → old ≡ pieces_from inner [] → one ≡ old ++ Ends root_edge ∷ [] → all ≡ one ++ Ends message_edge ∷ []
    → all ≡ pieces_of fragment drill_tables (document (tree_of p))
all_appended p inner old one all same is first second =
    let both : all ≡ pieces_from inner [] ++ (Ends root_edge ∷ (Ends message_edge ∷ [])) =
    second ∙ (ap (λ ps. ps ++ Ends message_edge ∷ []) (first ∙ ap (λ ps. ps ++ Ends root_edge ∷ []) is) ∙ append_assoc (pieces_from inner []) (Ends root_edge ∷ []) (Ends message_edge ∷ [])) in
    both ∙ (all_closed inner ∙ ap (λ v. pieces_of fragment drill_tables (document v)) same)
