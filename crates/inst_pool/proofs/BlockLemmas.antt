-- The two blocks of a region, with one more node.
use Rattle.std.proofs.Common.{◌≡◌, ℕ, zero, suc, ◌+◌, ◌-◌, ◌<◌, ◌≤◌, List, [], ◌∷◌, ◌++◌, length, take, drop, get_or, slice_get, slice_range, Option, Some, None, refl, sym, ap, ap₂, subst, ◌∙◌, arith, length-append, add-one}
use Rattle.std.proofs.Math.Seq.{drop-append_seam}
use Rattle.std.proofs.lemmas.Option.{slice_get-get_or}
use Rattle.std.specs.Option.{option_map}
use Rattle.std.specs.Prelude.{IfSome, IfNone}
use Rattle.data_types.specs.Leaf.{Leaf, Bytes as BytesLeaf}
use Rattle.data_types.specs.Value.{Piece, Holds}
use Rattle.inst_pool.specs.Pieces.{piece_bytes, bytes_of, room_limit, piece_of}
use Rattle.inst_pool.specs.Contents.{piece_in, IsContentInside, pieces_in, AreInside, AreBlocks, content_of_bytes, plain_leaf}
use Rattle.inst_pool.specs.declared.piece.Edge.{Edge as Told}
use Rattle.inst_pool.specs.declared.piece.Piece.{Piece as PieceRef}
use Rattle.inst_pool.specs.declared.content.Content.{Content}
use Rattle.inst_pool.specs.declared.content.Content.TheVariants.{Open, Bytes, Number, Flag, Code, Close}
use Rattle.inst_pool.proofs.ContentLemmas.{pieces-append, pieces-grow, inside-grow, inside-push, bytes_of-append}

-- a node without bytes
pub blocks-add : (contents : List Content) (bytes : List ℕ) (c : Content) → AreBlocks contents bytes → IsContentInside (length bytes) c → piece_bytes (piece_in bytes c) ≡ 0 → AreBlocks (contents ++ c ∷ []) bytes
blocks-add contents bytes c h inside none = record {
  inside = inside-push (length bytes) contents (c) h.inside inside;
  count = ap bytes_of (pieces-append bytes contents (c ∷ [])) ∙ (bytes_of-append (pieces_in bytes contents) (piece_in bytes c ∷ []) ∙ (let e = h.count in omega (arith, e, none)));
  byte_limit = h.byte_limit;
}

-- the bytes at the end of a block
pub range_end : (bytes more : List ℕ) → slice_range (bytes ++ more) (length bytes) (length bytes + length more) ≡ more
range_end bytes more =
    let n : (length bytes + length more) - length bytes ≡ length more = omega arith in
    ap₂ (λ (k : ℕ) (l : List ℕ). take k l) n (drop-append_seam bytes more) ∙ whole more
  where
    whole : (l : List ℕ) → take (length l) l ≡ l
    whole [] = refl
    whole (x ∷ l) = ap (λ (t : List ℕ). x ∷ t) (whole l)

pub pieces-store : (contents : List Content) (bytes more : List ℕ) → AreInside (length bytes) contents
    → pieces_in (bytes ++ more) (contents ++ content_of_bytes bytes more ∷ []) ≡ pieces_in bytes contents ++ Holds (BytesLeaf more) ∷ []
pieces-store contents bytes more h = pieces-append (bytes ++ more) contents (content_of_bytes bytes more ∷ [])
    ∙ ap₂ (λ (x y : List Piece). x ++ y) (pieces-grow bytes more contents h) (ap (λ (l : List ℕ). Holds (BytesLeaf l) ∷ []) (range_end bytes more))

pub blocks-store : (contents : List Content) (bytes more : List ℕ) → AreBlocks contents bytes → length bytes + length more ≤ room_limit
    → AreBlocks (contents ++ content_of_bytes bytes more ∷ []) (bytes ++ more)
blocks-store contents bytes more h byte_limit =
    let longer : length (bytes ++ more) ≡ length bytes + length more = length-append bytes more in record {
      inside = inside-push (length (bytes ++ more)) contents (content_of_bytes bytes more) (inside-grow (length bytes) (length (bytes ++ more)) contents (omega (arith, longer)) h.inside) (omega arith, omega (arith, longer));
      count = ap bytes_of (pieces-store contents bytes more h.inside) ∙ (bytes_of-append (pieces_in bytes contents) (Holds (BytesLeaf more) ∷ []) ∙ (let e = h.count in omega (arith, e, longer)));
      byte_limit = omega (arith, longer, byte_limit);
    }

-- contents that are added one by one
pub added_each : {A : Type 0} (l : List A) (x y z : A) → ((l ++ x ∷ []) ++ y ∷ []) ++ z ∷ [] ≡ l ++ x ∷ y ∷ z ∷ []
added_each [] x y z = refl
added_each (a ∷ l) x y z = ap (λ t. a ∷ t) (added_each l x y z)

-- an element with a node without bytes
pub blocks-within : (contents : List Content) (bytes : List ℕ) (edge : Told) (c : Content) → AreBlocks contents bytes → IsContentInside (length bytes) c → piece_bytes (piece_in bytes c) ≡ 0
    → AreBlocks (contents ++ Open edge ∷ c ∷ Close edge ∷ []) bytes
blocks-within contents bytes edge c h inside none =
    let one = blocks-add contents bytes (Open edge) h tt refl in
    let two = blocks-add (contents ++ Open edge ∷ []) bytes c one inside none in
    let three = blocks-add ((contents ++ Open edge ∷ []) ++ c ∷ []) bytes (Close edge) two tt refl in
    subst (λ (l : List Content). AreBlocks l bytes) (added_each contents (Open edge) c (Close edge)) three

-- an element with bytes
pub blocks-within_store : (contents : List Content) (bytes more : List ℕ) (edge : Told) → AreBlocks contents bytes → length bytes + length more ≤ room_limit
    → AreBlocks (contents ++ Open edge ∷ content_of_bytes bytes more ∷ Close edge ∷ []) (bytes ++ more)
blocks-within_store contents bytes more edge h limit =
    let one = blocks-add contents bytes (Open edge) h tt refl in
    let two = blocks-store (contents ++ Open edge ∷ []) bytes more one limit in
    let three = blocks-add ((contents ++ Open edge ∷ []) ++ content_of_bytes bytes more ∷ []) (bytes ++ more) (Close edge) two tt refl in
    subst (λ (l : List Content). AreBlocks l (bytes ++ more)) (added_each contents (Open edge) (content_of_bytes bytes more) (Close edge)) three

-- a leaf without bytes
pub plain_piece : (bytes : List ℕ) (c : Content) (leaf : Leaf) → plain_leaf c ≡ Some leaf → piece_in bytes c ≡ Holds leaf
plain_piece bytes (Open e) leaf h = absurd (let h' : None ≡ Some leaf = h in cc)
plain_piece bytes (Bytes s e) leaf h = absurd (let h' : None ≡ Some leaf = h in cc)
plain_piece bytes (Number n) leaf h = (let e : Some (Rattle.data_types.specs.Leaf.Number n) ≡ Some leaf = h in cc)
plain_piece bytes (Flag f) leaf h = (let e : Some (Rattle.data_types.specs.Leaf.Flag f) ≡ Some leaf = h in cc)
plain_piece bytes (Code k) leaf h = (let e : Some (Rattle.data_types.specs.Leaf.Code k) ≡ Some leaf = h in cc)
plain_piece bytes (Close e) leaf h = absurd (let h' : None ≡ Some leaf = h in cc)

pub plain_inside : (n : ℕ) (c : Content) (leaf : Leaf) → plain_leaf c ≡ Some leaf → IsContentInside n c
plain_inside n (Open e) leaf h = tt
plain_inside n (Bytes s e) leaf h = absurd (let h' : None ≡ Some leaf = h in cc)
plain_inside n (Number k) leaf h = tt
plain_inside n (Flag f) leaf h = tt
plain_inside n (Code k) leaf h = tt
plain_inside n (Close e) leaf h = tt

pub plain_bytes : (bytes : List ℕ) (c : Content) (leaf : Leaf) → plain_leaf c ≡ Some leaf → piece_bytes (piece_in bytes c) ≡ 0
plain_bytes bytes (Open e) leaf h = refl
plain_bytes bytes (Bytes s e) leaf h = absurd (let h' : None ≡ Some leaf = h in cc)
plain_bytes bytes (Number k) leaf h = refl
plain_bytes bytes (Flag f) leaf h = refl
plain_bytes bytes (Code k) leaf h = refl
plain_bytes bytes (Close e) leaf h = refl

-- the piece at a place, and those behind it
pub drop-get : (ps : List Piece) (at : ℕ) (p : Piece) → slice_get ps at ≡ Some p → drop at ps ≡ p ∷ drop (suc at) ps
drop-get [] at p e = absurd (let e' : None ≡ Some p = e in cc)
drop-get (q ∷ ps) zero p e = (let e' : Some q ≡ Some p = e in cc)
drop-get (q ∷ ps) (suc at) p e = drop-get ps at p e

-- what a walk answers
pub walk_some : (ps : List Piece) (at : ℕ) (r : Option PieceRef) → option_map piece_of r ≡ slice_get ps at → IfSome r (λ p. drop at ps ≡ piece_of p ∷ drop (at + 1) ps)
walk_some ps at None e = tt
walk_some ps at (Some p) e = rw add-one (drop-get ps at (piece_of p) (sym e))

pub walk_none : (ps : List Piece) (at : ℕ) (r : Option PieceRef) (P : Type 0) → at < length ps → option_map piece_of r ≡ slice_get ps at → IfNone r P
walk_none ps at None P lt e = absurd (let h : None ≡ Some (get_or ps at (Holds (BytesLeaf []))) = e ∙ slice_get-get_or ps at (Holds (BytesLeaf [])) lt in cc)
walk_none ps at (Some p) P lt e = tt
