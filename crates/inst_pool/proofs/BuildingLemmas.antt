-- The blocks of an instance that is being made, with one more content.
use Rattle.std.proofs.Common.{◌≡◌, ℕ, ◌+◌, ◌-◌, ◌≤◌, List, [], ◌∷◌, ◌++◌, length, drop, Some, refl, sym, ap, ap₂, ◌∙◌, arith, length-append}
use Rattle.std.specs.Prelude.{slice_get, vec_capacity}
use Rattle.std.specs.Option.{option_map}
use Rattle.std.proofs.lemmas.List.{nil_from_length}
use Rattle.data_types.specs.Leaf.{Leaf, Bytes as BytesLeaf}
use Rattle.data_types.specs.Value.{Edge, Piece, Begins, Holds, Ends}
use Rattle.inst_pool.specs.Blocks.{HasRoomInBlocks, SameItems, opened_in, block_pieces, AreBuilding}
use Rattle.inst_pool.specs.Contents.{piece_in, pieces_in, AreBlocks, content_of_bytes, plain_leaf}
use Rattle.inst_pool.specs.Pieces.{edge_of, open_in, edges_open_behind, room_limit}
use Rattle.inst_pool.specs.declared.blocks.Blocks.{Blocks}
use Rattle.inst_pool.specs.declared.content.Content.{Content}
use Rattle.inst_pool.specs.declared.content.Content.TheVariants.{Open, Close}
use Rattle.inst_pool.specs.declared.piece.Edge.{Edge as Told}
use Rattle.inst_pool.proofs.ContentLemmas.{length_pieces, pieces-append, pieces-grow, open-append}
use Rattle.inst_pool.proofs.BlockLemmas.{blocks-add, blocks-store, blocks-within, blocks-within_store, pieces-store, range_end, plain_piece, plain_inside, plain_bytes}

-- ---- the elements that are open

pub opened-append : (outer : List Edge) (a b : List Told) → opened_in outer (a ++ b) ≡ opened_in (opened_in outer a) b
opened-append outer [] b = refl
opened-append outer (e ∷ a) b = opened-append (edge_of e ∷ outer) a b

opened_count : (outer : List Edge) (es : List Told) → length (opened_in outer es) ≡ length es + length outer
opened_count outer [] = omega arith
opened_count outer (e ∷ es) = (let h = opened_count (edge_of e ∷ outer) es in omega (arith, h))

drop_most : (outer : List Edge) → length (drop 1 outer) ≤ length outer
drop_most [] = omega arith
drop_most (e ∷ outer) = omega arith

open_most : (outer : List Edge) (ps : List Piece) → length (edges_open_behind outer ps) ≤ length ps + length outer
open_most outer [] = omega arith
open_most outer (Begins e ∷ ps) = (let h = open_most (e ∷ outer) ps in omega (arith, h))
open_most outer (Holds l ∷ ps) = (let h = open_most outer ps in omega (arith, h))
open_most outer (Ends e ∷ ps) = (let h = open_most (drop 1 outer) ps in let d = drop_most outer in omega (arith, h, d))

-- no more elements are open than there are pieces
pub opened_most : (b : Blocks) → AreBuilding b → length b.opened.items ≤ length b.contents.items
opened_most b h =
    let n = opened_count [] b.opened.items in
    let e : length (opened_in [] b.opened.items) ≡ length (open_in (block_pieces b)) = ap length h.opened in
    let m = open_most [] (block_pieces b) in
    let l = length_pieces b.bytes.items b.contents.items in omega (arith, n, e, m, l)

pub opened_none : (b : Blocks) → AreBuilding b → open_in (block_pieces b) ≡ [] → b.opened.items ≡ []
opened_none b h e =
    let n = opened_count [] b.opened.items in
    let l : length (opened_in [] b.opened.items) ≡ 0 = ap length (h.opened ∙ e) in nil_from_length b.opened.items (omega (arith, n, l))

-- ---- one more content

pub same_building : (b c : Blocks) → AreBuilding b → SameItems b c → HasRoomInBlocks c → AreBuilding c
same_building b c h s room = record {
  blocks = rw (s.contents, s.bytes) h.blocks;
  room = room;
  opened = rw (s.contents, s.bytes, s.opened) h.opened;
}

pub same_pieces : (b c : Blocks) → SameItems b c → block_pieces c ≡ block_pieces b
same_pieces b c s = rw (s.contents, s.bytes) refl

-- a content is added, and the room is what it was
pub record Added (m n : Blocks) (x : Content) : Type 0 where
  pub contents : n.contents.items ≡ m.contents.items ++ x ∷ []
  pub contents_room : n.contents.room ≡ m.contents.room
  pub opened_room : vec_capacity n.opened ≡ vec_capacity m.opened
  pub lens : n.lens ≡ m.lens
  pub groups : n.groups ≡ m.groups
  pub room : n.room ≡ m.room

added_room : (m n : Blocks) (x : Content) → Added m n x → HasRoomInBlocks m → length m.contents.items + 1 ≤ m.room → HasRoomInBlocks n
added_room m n x a h fits =
    let count = length-append m.contents.items (x ∷ []) in
    record {
      pieces = rw (a.contents, a.room) (omega (arith, count, fits));
      limit = rw a.room h.limit;
      contents = rw (a.room, a.contents_room) h.contents;
      opened = rw (a.room, a.opened_room) h.opened;
      lens = rw (a.room, a.lens) h.lens;
      groups = rw (a.room, a.groups) h.groups;
    }

pub added_pieces : (m n : Blocks) (x : Content) → Added m n x → n.bytes ≡ m.bytes → block_pieces n ≡ block_pieces m ++ piece_in m.bytes.items x ∷ []
added_pieces m n x a bytes = rw (a.contents, bytes) (pieces-append m.bytes.items m.contents.items (x ∷ []))

-- an element that begins
pub building_begin : (m n : Blocks) (edge : Told) → AreBuilding m → length m.contents.items + 1 ≤ m.room → Added m n (Open edge) → n.bytes ≡ m.bytes → n.opened.items ≡ m.opened.items ++ edge ∷ [] → AreBuilding n
building_begin m n edge h fits a bytes opened = record {
  blocks = rw (a.contents, bytes) (blocks-add m.contents.items m.bytes.items (Open edge) h.blocks tt refl);
  room = added_room m n (Open edge) a h.room fits;
  opened = ap (opened_in []) opened ∙ (opened-append [] m.opened.items (edge ∷ []) ∙ (ap (λ (l : List Edge). edge_of edge ∷ l) h.opened
      ∙ sym (ap open_in (added_pieces m n (Open edge) a bytes) ∙ open-append [] (block_pieces m) (Begins (edge_of edge) ∷ []))));
}

-- the innermost open element is the one that was opened last
pub innermost : (m : Blocks) (outer : List Told) (edge : Told) → AreBuilding m → m.opened.items ≡ outer ++ edge ∷ [] → open_in (block_pieces m) ≡ edge_of edge ∷ opened_in [] outer
innermost m outer edge h opened = sym h.opened ∙ (ap (opened_in []) opened ∙ opened-append [] outer (edge ∷ []))

last_opened : (outer : List Edge) (edge : Told) (edges : List Told) → option_map edge_of (slice_get (edge ∷ edges) (length edges)) ≡ slice_get (opened_in (edge_of edge ∷ outer) edges) 0
last_opened outer edge [] = refl
last_opened outer edge (next ∷ edges) = last_opened (edge_of edge ∷ outer) next edges

opened_last : (edges : List Told) → option_map edge_of (slice_get edges (length edges - 1)) ≡ slice_get (opened_in [] edges) 0
opened_last [] = refl
opened_last (edge ∷ edges) = ap (λ n. option_map edge_of (slice_get (edge ∷ edges) n)) one_less ∙ last_opened [] edge edges
  where
    one_less : length (edge ∷ edges) - 1 ≡ length edges
    one_less = omega arith

pub innermost_last : (m : Blocks) → AreBuilding m → option_map edge_of (slice_get m.opened.items (length m.opened.items - 1)) ≡ slice_get (open_in (block_pieces m)) 0
innermost_last m h = opened_last m.opened.items ∙ ap (λ (l : List Edge). slice_get l 0) h.opened

-- an element that ends
pub building_close : (m n : Blocks) (edge : Told) → AreBuilding m → length m.contents.items + 1 ≤ m.room → Added m n (Close edge) → n.bytes ≡ m.bytes → m.opened.items ≡ n.opened.items ++ edge ∷ [] → AreBuilding n
building_close m n edge h fits a bytes opened = record {
  blocks = rw (a.contents, bytes) (blocks-add m.contents.items m.bytes.items (Close edge) h.blocks tt refl);
  room = added_room m n (Close edge) a h.room fits;
  opened = sym (ap open_in (added_pieces m n (Close edge) a bytes) ∙ (open-append [] (block_pieces m) (Ends (edge_of edge) ∷ []) ∙ ap (λ (l : List Edge). drop 1 l) (innermost m n.opened.items edge h opened)));
}

heads : (a b : Edge) (xs ys : List Edge) → a ∷ xs ≡ b ∷ ys → a ≡ b
heads a b xs ys e = cc

pub close_pieces : (m n : Blocks) (edge : Told) → AreBuilding m → Added m n (Close edge) → n.bytes ≡ m.bytes → m.opened.items ≡ n.opened.items ++ edge ∷ [] → (inner : Edge) (outer : List Edge) → open_in (block_pieces m) ≡ inner ∷ outer
    → block_pieces n ≡ block_pieces m ++ Ends inner ∷ []
close_pieces m n edge h a bytes opened inner outer is =
    let same : edge_of edge ≡ inner = heads _ _ _ _ (sym (innermost m n.opened.items edge h opened) ∙ is) in
    added_pieces m n (Close edge) a bytes ∙ ap (λ (x : Edge). block_pieces m ++ Ends x ∷ []) same

-- a leaf
pub open-hold : (ps : List Piece) (leaf : Leaf) → open_in (ps ++ Holds leaf ∷ []) ≡ open_in ps
open-hold ps leaf = open-append [] ps (Holds leaf ∷ [])

pub held_pieces : (m n : Blocks) (x : Content) (leaf : Leaf) → plain_leaf x ≡ Some leaf → Added m n x → n.bytes ≡ m.bytes → block_pieces n ≡ block_pieces m ++ Holds leaf ∷ []
held_pieces m n x leaf is a bytes = added_pieces m n x a bytes ∙ ap (λ (p : Piece). block_pieces m ++ p ∷ []) (plain_piece m.bytes.items x leaf is)

pub building_hold : (m n : Blocks) (x : Content) (leaf : Leaf) → plain_leaf x ≡ Some leaf → AreBuilding m → length m.contents.items + 1 ≤ m.room → Added m n x → n.bytes ≡ m.bytes → n.opened.items ≡ m.opened.items → AreBuilding n
building_hold m n x leaf is h fits a bytes opened = record {
  blocks = rw (a.contents, bytes) (blocks-add m.contents.items m.bytes.items x h.blocks (plain_inside _ x leaf is) (plain_bytes _ x leaf is));
  room = added_room m n x a h.room fits;
  opened = ap (opened_in []) opened ∙ (h.opened ∙ sym (ap open_in (held_pieces m n x leaf is a bytes) ∙ open-hold (block_pieces m) leaf));
}

-- a leaf of bytes
pub stored_pieces : (m n : Blocks) (more : List ℕ) → AreBuilding m → Added m n (content_of_bytes m.bytes.items more) → n.bytes.items ≡ m.bytes.items ++ more → block_pieces n ≡ block_pieces m ++ Holds (BytesLeaf more) ∷ []
stored_pieces m n more h a bytes = rw (a.contents, bytes) (pieces-store m.contents.items m.bytes.items more h.blocks.inside)

pub building_store : (m n : Blocks) (more : List ℕ) → AreBuilding m → length m.contents.items + 1 ≤ m.room → length m.bytes.items + length more ≤ room_limit → Added m n (content_of_bytes m.bytes.items more) → n.bytes.items ≡ m.bytes.items ++ more
    → n.opened.items ≡ m.opened.items → AreBuilding n
building_store m n more h fits limit a bytes opened = record {
  blocks = rw (a.contents, bytes) (blocks-store m.contents.items m.bytes.items more h.blocks limit);
  room = added_room m n (content_of_bytes m.bytes.items more) a h.room fits;
  opened = ap (opened_in []) opened ∙ (h.opened ∙ sym (ap open_in (stored_pieces m n more h a bytes) ∙ open-hold (block_pieces m) (BytesLeaf more)));
}

-- ---- an element with its leaf

-- the contents of an element with its leaf are added, and the room is what it was
pub record AddedWithin (m n : Blocks) (edge : Told) (x : Content) : Type 0 where
  pub contents : n.contents.items ≡ m.contents.items ++ Open edge ∷ x ∷ Close edge ∷ []
  pub contents_room : n.contents.room ≡ m.contents.room
  pub opened : n.opened ≡ m.opened
  pub lens : n.lens ≡ m.lens
  pub groups : n.groups ≡ m.groups
  pub room : n.room ≡ m.room

within_room : (m n : Blocks) (edge : Told) (x : Content) → AddedWithin m n edge x → HasRoomInBlocks m → length m.contents.items + 3 ≤ m.room → HasRoomInBlocks n
within_room m n edge x a h fits =
    let count = length-append m.contents.items (Open edge ∷ x ∷ Close edge ∷ []) in
    record {
      pieces = rw (a.contents, a.room) (omega (arith, count, fits));
      limit = rw a.room h.limit;
      contents = rw (a.room, a.contents_room) h.contents;
      opened = rw (a.room, a.opened) h.opened;
      lens = rw (a.room, a.lens) h.lens;
      groups = rw (a.room, a.groups) h.groups;
    }

within_pieces : (m n : Blocks) (edge : Told) (x : Content) (leaf : Leaf) → AddedWithin m n edge x → pieces_in n.bytes.items m.contents.items ≡ block_pieces m → piece_in n.bytes.items x ≡ Holds leaf
    → block_pieces n ≡ block_pieces m ++ Begins (edge_of edge) ∷ Holds leaf ∷ Ends (edge_of edge) ∷ []
within_pieces m n edge x leaf a same is = ap (pieces_in n.bytes.items) a.contents
    ∙ (pieces-append n.bytes.items m.contents.items (Open edge ∷ x ∷ Close edge ∷ [])
    ∙ ap₂ (λ (l : List Piece) (p : Piece). l ++ Begins (edge_of edge) ∷ p ∷ Ends (edge_of edge) ∷ []) same is)

building_within : (m n : Blocks) (edge : Told) (x : Content) (leaf : Leaf) → AreBuilding m → length m.contents.items + 3 ≤ m.room → AddedWithin m n edge x → AreBlocks n.contents.items n.bytes.items
    → block_pieces n ≡ block_pieces m ++ Begins (edge_of edge) ∷ Holds leaf ∷ Ends (edge_of edge) ∷ [] → AreBuilding n
building_within m n edge x leaf h fits a blocks pieces = record {
  blocks = blocks;
  room = within_room m n edge x a h.room fits;
  opened = rw a.opened (h.opened ∙ sym (ap open_in pieces ∙ open-append [] (block_pieces m) (Begins (edge_of edge) ∷ Holds leaf ∷ Ends (edge_of edge) ∷ [])));
}

-- a leaf without bytes
pub plain_within_pieces : (m n : Blocks) (edge : Told) (x : Content) (leaf : Leaf) → plain_leaf x ≡ Some leaf → AddedWithin m n edge x → n.bytes ≡ m.bytes
    → block_pieces n ≡ block_pieces m ++ Begins (edge_of edge) ∷ Holds leaf ∷ Ends (edge_of edge) ∷ []
plain_within_pieces m n edge x leaf is a bytes = within_pieces m n edge x leaf a (rw bytes refl) (rw bytes (plain_piece m.bytes.items x leaf is))

pub building_plain_within : (m n : Blocks) (edge : Told) (x : Content) (leaf : Leaf) → plain_leaf x ≡ Some leaf → AreBuilding m → length m.contents.items + 3 ≤ m.room → AddedWithin m n edge x → n.bytes ≡ m.bytes → AreBuilding n
building_plain_within m n edge x leaf is h fits a bytes =
    building_within m n edge x leaf h fits a (rw (a.contents, bytes) (blocks-within m.contents.items m.bytes.items edge x h.blocks (plain_inside _ x leaf is) (plain_bytes _ x leaf is)))
    (plain_within_pieces m n edge x leaf is a bytes)

-- a leaf of bytes
pub stored_within_pieces : (m n : Blocks) (edge : Told) (more : List ℕ) → AreBuilding m → AddedWithin m n edge (content_of_bytes m.bytes.items more) → n.bytes.items ≡ m.bytes.items ++ more
    → block_pieces n ≡ block_pieces m ++ Begins (edge_of edge) ∷ Holds (BytesLeaf more) ∷ Ends (edge_of edge) ∷ []
stored_within_pieces m n edge more h a bytes =
    within_pieces m n edge (content_of_bytes m.bytes.items more) (BytesLeaf more) a (rw bytes (pieces-grow m.bytes.items more m.contents.items h.blocks.inside))
    (rw bytes (ap (λ (l : List ℕ). Holds (BytesLeaf l)) (range_end m.bytes.items more)))

pub building_stored_within : (m n : Blocks) (edge : Told) (more : List ℕ) → AreBuilding m → length m.contents.items + 3 ≤ m.room → length m.bytes.items + length more ≤ room_limit
    → AddedWithin m n edge (content_of_bytes m.bytes.items more) → n.bytes.items ≡ m.bytes.items ++ more → AreBuilding n
building_stored_within m n edge more h fits limit a bytes =
    building_within m n edge (content_of_bytes m.bytes.items more) (BytesLeaf more) h fits a (rw (a.contents, bytes) (blocks-within_store m.contents.items m.bytes.items more edge h.blocks limit))
    (stored_within_pieces m n edge more h a bytes)
